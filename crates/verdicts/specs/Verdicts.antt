-- What became of one message, from its fates at all receivers.
use Rattle.std.specs.Prelude.{ℕ, ◌+◌, ◌-◌, ◌^◌, Bool, cond, not, ◌&&◌, List, min, count_by}
use Rattle.std.specs.List.{fold}
use Rattle.verdicts.specs.declared.fate.Fate.{Fate}
use Rattle.verdicts.specs.declared.fate.Verdict.{Verdict}

-- the receiver has it in time and believes it
abbrev pub believes : Fate → Bool
believes f = f.in_time && f.delivered

-- it has it in time and buffered, and no key came
abbrev pub lacks_key : Fate → Bool
lacks_key f = (f.in_time && not f.delivered) && f.buffered

-- it has it in time and had no room
abbrev pub lacks_room : Fate → Bool
lacks_room f = (f.in_time && not f.delivered) && not f.buffered

abbrev pub verdict_of : List Fate → Verdict
verdict_of fs =
    record { reached = count_by (λ f. f.in_time) fs; believed = count_by believes fs; no_room = count_by lacks_room fs; no_key = count_by lacks_key fs; outside = count_by (λ f. f.outside) fs }

-- counted before any fate
unfoldable pub nothing : Verdict
nothing = record { reached = 0; believed = 0; no_room = 0; no_key = 0; outside = 0 }

-- one more where it is so, or the most of 64 bits
abbrev pub one_more_if : Bool → ℕ → ℕ
one_more_if b n = min (n + cond b 1 0) (2 ^ 64 - 1)

-- with one fate more
unfoldable pub with_fate : Verdict → Fate → Verdict
with_fate v f =
    record { reached = one_more_if f.in_time v.reached; believed = one_more_if (believes f) v.believed; no_room = one_more_if (lacks_room f) v.no_room; no_key = one_more_if (lacks_key f) v.no_key; outside = one_more_if f.outside v.outside }

-- fate after fate: the same, as `tallied_whole` of proofs/ shows
abbrev pub tallied : List Fate → Verdict
tallied fs = fold with_fate nothing fs
