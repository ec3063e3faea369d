use Rattle.std.specs.Prelude.{◌≡◌, ℕ, ℤ, pos, negsuc, ◌+◌, ◌-◌, ◌*◌, ◌/◌, ◌%◌, ◌^◌, ◌≤◌, ◌==◌, nat_lt, cond}
use Rattle.rl_tags.specs.declared.Tag.{Tag}
use Rattle.rl_tags.specs.declared.Tag.TheVariants.{Int, Id, Str, Pair, Vector, Big, Fun}

-- what a tagged word stands for: a small integer, or a place under one of the other tags
pub data Tagged : Type 0 where
  Number : ℤ → Tagged
  IdAt : ℕ → Tagged
  StrAt : ℕ → Tagged
  PairAt : ℕ → Tagged
  VectorAt : ℕ → Tagged
  BigAt : ℕ → Tagged
  FunAt : ℕ → Tagged

abbrev pub tag_of : Tagged → Tag
tag_of (Number n) = Int
tag_of (IdAt i) = Id
tag_of (StrAt i) = Str
tag_of (PairAt i) = Pair
tag_of (VectorAt i) = Vector
tag_of (BigAt i) = Big
tag_of (FunAt i) = Fun

-- the place that it names; 0 for an integer
abbrev pub index_of : Tagged → ℕ
index_of (Number n) = 0
index_of (IdAt i) = i
index_of (StrAt i) = i
index_of (PairAt i) = i
index_of (VectorAt i) = i
index_of (BigAt i) = i
index_of (FunAt i) = i

-- the place i under a tag other than Int
abbrev pub at_tag : Tag → ℕ → Tagged
at_tag Int i = Number (pos i)
at_tag Id i = IdAt i
at_tag Str i = StrAt i
at_tag Pair i = PairAt i
at_tag Vector i = VectorAt i
at_tag Big i = BigAt i
at_tag Fun i = FunAt i

-- the integer; 0 for any other
abbrev pub number_of : Tagged → ℤ
number_of (Number n) = n
number_of (IdAt i) = pos 0
number_of (StrAt i) = pos 0
number_of (PairAt i) = pos 0
number_of (VectorAt i) = pos 0
number_of (BigAt i) = pos 0
number_of (FunAt i) = pos 0

-- a number of 60 bits in two's complement
abbrev pub signed60 : ℕ → ℤ
signed60 i = cond (nat_lt i (2 ^ 59)) (pos i) (negsuc (2 ^ 60 - 1 - i))

abbrev pub unsigned60 : ℤ → ℕ
unsigned60 (pos n) = n
unsigned60 (negsuc m) = 2 ^ 60 - 1 - m

-- the word for it: the tag in the low four bits, the rest above
abbrev pub word_of : Tagged → ℕ
word_of (Number n) = 16 * unsigned60 n
word_of (IdAt i) = 16 * i + 1
word_of (StrAt i) = 16 * i + 2
word_of (PairAt i) = 16 * i + 3
word_of (VectorAt i) = 16 * i + 4
word_of (BigAt i) = 16 * i + 5
word_of (FunAt i) = 16 * i + 6

-- by the low four bits t, the rest i
abbrev pub tagged_at : ℕ → ℕ → Tagged
tagged_at t i =
    cond (t == 0) (Number (signed60 i))
    (cond (t == 1) (IdAt i)
    (cond (t == 2) (StrAt i)
    (cond (t == 3) (PairAt i)
    (cond (t == 4) (VectorAt i)
    (cond (t == 5) (BigAt i) (FunAt i))))))

-- what a word stands for, of which the low four bits are at most 6
abbrev pub tagged_of : ℕ → Tagged
tagged_of w = tagged_at (w % 16) (w / 16)

-- this word stands for it
pub record IsWordOf (word : ℕ) (v : Tagged) : Type 0 where
  pub is_tagged : word % 16 ≤ 6
  pub is : tagged_of word ≡ v
