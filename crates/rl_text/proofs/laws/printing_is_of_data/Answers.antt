use Rattle.rl_text.proofs.PrintsData.{printed_front, printed_whole}
use Rattle.rl_text.proofs.laws.printing_is_of_data.Goals as goal

pub returns : goal.returns
returns c = record {
  whole = λ g v datum levels p begun is ends. printed_whole g v datum levels p is ends;
  front = λ g v datum levels p begun is. printed_front g v datum levels p is;
}
