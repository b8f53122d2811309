use Rattle.model.proofs.Terms.{one_way, key_late, tag_late, in_time}
use Rattle.model.proofs.terms_stand.Goals as goal

pub returns : goal.returns
returns c = record { one_way = one_way; key = key_late; tag = tag_late; time = in_time }
