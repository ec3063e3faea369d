-- Marks and classes of bytes in code, and in the definition of Lisp text.
use Rattle.rl_text.specs.Byte as byte
use Rattle.rl_text.specs.declared.bytes.Mark.{Mark}
use Rattle.rl_text.specs.declared.bytes.Mark.TheVariants as mark
use Rattle.rl_text.specs.declared.bytes.Class.{Class}
use Rattle.rl_text.specs.declared.bytes.Class.TheVariants as class

abbrev pub mark_of : Mark → byte.Mark
mark_of mark.Open = byte.Open
mark_of mark.Close = byte.Close
mark_of mark.Dot = byte.Dot
mark_of mark.Quote = byte.Quote
mark_of mark.OpenVector = byte.OpenVector
mark_of mark.CloseVector = byte.CloseVector

abbrev pub class_as : Class → byte.Class
class_as class.Blank = byte.Blank
class_as class.Percent = byte.Percent
class_as (class.Marks m) = byte.Marks (mark_of m)
class_as class.Text = byte.Text
class_as class.Escape = byte.Escape
class_as class.Letter = byte.Letter
class_as class.Digit = byte.Digit
class_as class.Sign = byte.Sign
class_as class.Special = byte.Special
class_as class.Nothing = byte.Nothing
