-- Memory that is written one part behind another.
use Rattle.std.proofs.Common.{◌≡◌, ℕ, ◌+◌, ◌-◌, Bool, true, false, cond, List, ◌++◌, length, take, drop, Ok, Err, Result, sym, refl, ap, ◌∙◌, append_assoc, arith, length-append}
use borrow.Rule.Slice.PartMut.{put_mid}
use Rattle.std.proofs.lemmas.List.{take_at, drop_at, drop-drop}
use Rattle.timing.specs.declared.refusal.Refusal.{Refusal}
use Rattle.timing.specs.declared.refusal.Refusal.TheVariants.{Malformed}
use Rattle.wire.specs.Bytes.{over}

pub over_more : (w old out part : List ℕ) (at end : ℕ) → at ≡ length w → end ≡ at + length part → out ≡ over w old → put_mid at (end - at) out part ≡ over (w ++ part) old
over_more w old out part at end h n e =
    let k : end - at ≡ length part = omega arith in
    let t : take at out ≡ w = ap (take at) e ∙ take_at w (drop (length w) old) at (sym h) in
    let d : drop at out ≡ drop (length w) old = ap (drop at) e ∙ drop_at w (drop (length w) old) at (sym h) in
    rw (k, t, d, drop-drop (length part) (length w) old, append_assoc w part, length-append w part)

-- a writer that answered Ok wrote
pub wrote : (t : Bool) (n m : ℕ) → ◌≡◌ {A = Result ℕ Refusal} (Ok n) (cond t (Ok m) (Err Malformed)) → (t ≡ true) × (n ≡ m)
wrote true n m e = (refl, cc)
wrote false n m e = let z : ◌≡◌ {A = ℕ} 0 1 = cc in absurd (omega arith)
