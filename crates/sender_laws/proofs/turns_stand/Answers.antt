use Rattle.sender_laws.proofs.Turned.{in_turn, out_of_turn, one_of_two, all_within, heard_again}
use Rattle.sender_laws.proofs.turns_stand.Goals as goal

pub returns : goal.returns
returns c = record { turned = in_turn; out_of_turn = out_of_turn; two = one_of_two; all = all_within; again = heard_again }
