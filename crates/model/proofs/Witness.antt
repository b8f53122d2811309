-- A run in which all goes well, and one in which the key is out as soon as the safety test refuses.
use Rattle.std.proofs.Common.{◌≡◌, ℕ, ◌+◌, ◌-◌, ◌*◌, ◌<◌, ◌≤◌, ltb, List, [], ◌∷◌, sym, refl, subst, mul_comm, add-mul, arith}
use mathlib.Core.List.{Memᴰ}
use native.Mathlib.Nat.{zero-div}
use Rattle.std.proofs.lemmas.Bool.{leb-true, le-ltb, cond-true, cond-false}
use Rattle.timing.specs.Time.{Params, opening, release}
use Rattle.model.specs.Term.{Bytes, Term, Text, Gets, has, text, mac, cut, val}
use Rattle.model.specs.Receiver.{Said, Message, Event, ticked, heard, disclosed, ours, after, is_in, of_interval, message_bytes}
use Rattle.model.specs.Run.{key_term, key_bytes, tag_of, message_of, World, start, Later, here, onward, passes, says, discloses, brings, passed, uttered, told_key, brought, BringsKey, BringsTag, Within, MaySay}
use Rattle.model.specs.Promise.{WasSaid}
use Rattle.model.specs.Witness.{SomeRun, Exact}
use Rattle.model.proofs.Terms.{chain_down}
use Rattle.model.proofs.Intervals.{limits, opened}
use Rattle.model.proofs.Buffers.{in_is}
use Rattle.model.proofs.Always.{hears_newest}
use Rattle.model.proofs.Promises.{promise}

-- a key of the air that is brought as it is
pub own_key : (p : Params) (b : Bytes) (air : List Term) (newest j : ℕ) → newest ≤ j → j ≤ p.last → Memᴰ (key_term p j) air → BringsKey p b air newest j (key_bytes p b j)
own_key p b air m j h l i = record { term = key_term p j; can = has i; bytes = refl; apart = λ q e. chain_down 0 p.last j m h l }

-- no key behind a message
pub no_key : (p : Params) (b : Bytes) (air : List Term) (newest : ℕ) → BringsKey p b air newest 0 []
unfolding val
no_key p b air m = record { term = Text []; can = text []; bytes = refl; apart = λ q. absurd (omega arith) }

-- a tag of the air that is brought as it is
pub own_tag : (p : Params) (b : Bytes) (air : List Term) (s : Said) → Gets air (tag_of p s) → BringsTag p b air (message_of p b s)
own_tag p b air s g = record { term = tag_of p s; can = g; bytes = refl; apart = λ e. refl }

abbrev pub hello : Said
hello = record { interval = 1; index = 0; text = [] }

pub may_hello : (p : Params) → 0 < p.ticks → 0 < p.last → MaySay p (record { says = hello; at = 0 })
may_hello p t h = record { its_interval = rw (zero-div p.ticks); lies_in_chain = h; low_index = omega arith; short = omega arith }

pub some_run : SomeRun
unfolding of_interval
some_run p b r =
    let l = limits p r in
    let u = ours p b.mac in
    let w0 : World u = start p b u in
    let w1 : World u = uttered p hello w0 in
    let x = message_of p b hello in
    let e : Event = heard x 0 [] in
    let w2 : World u = brought 0 e w1 in
    let w3 : World u = passed (opening p (release p 1)) w2 in
    let w4 : World u = told_key p 1 w3 in
    let w5 : World u = brought 0 (disclosed 1 (key_bytes p b 1)) w4 in
    let run1 : Later p b u w0 w1 = onward here (says w0 hello (may_hello p l.some_ticks l.some_intervals)) in
    let is_said : WasSaid p w1.said hello = record { at_tick = 0; is_said = mathlib.Core.List.Memᴰ.head refl; its_interval = (may_hello p l.some_ticks l.some_intervals).its_interval } in
    let clock : Within p 0 0 = record { not_slow = omega arith; not_fast = omega arith } in
    let tag : BringsTag p b w1.air x = own_tag p b w1.air hello (has (mathlib.Core.List.Memᴰ.head refl)) in
    let none : BringsKey p b w1.air 0 0 [] = no_key p b w1.air 0 in
    let d : 1 + p.delay + 1 - 1 ≡ p.delay + 1 = omega arith in
    let early : 0 + 2 * p.error < opening p (release p 1) = rw d (omega (arith, add-mul p.delay 1 p.ticks, mul_comm p.ticks p.delay, l.small_error)) in
    let kept : Memᴰ x (after p b.mac e (w1.sites 0).held).buffer = ((promise p b r w1 run1 0).buffers hello 0 [] is_said (clock, tag, none) early (omega arith) refl).0 in
    let run2 : Later p b u w0 w2 = onward run1 (brings w1 0 e (clock, tag, none)) in
    let run3 : Later p b u w0 w3 = onward run2 (passes w2 (opening p (release p 1)) (omega arith)) in
    let run4 : Later p b u w0 w4 = onward run3 (discloses w3 1 l.some_intervals (opened p (release p 1) (opening p (release p 1)) l.some_ticks (omega arith))) in
    let first : (w4.sites 0).held.newest ≡ 0 = hears_newest p x (w1.sites 0).held in
    let run5 : Later p b u w0 w5 = onward run4 (brings w4 0 (disclosed 1 (key_bytes p b 1)) (own_key p b w4.air (w4.sites 0).held.newest 1 (omega arith) l.some_intervals (mathlib.Core.List.Memᴰ.head refl))) in
    let newest : (w5.sites 0).held.newest ≡ 1 = (promise p b r w4 run4 0).takes (disclosed 1 (key_bytes p b 1)) 1 (refl, refl) (omega arith) l.some_intervals (omega arith) in
    let buffer = (after p b.mac e (w1.sites 0).held).buffer in
    let was-kept : Memᴰ x (w5.sites 0).kept = let P : List Message → Type 0 = Memᴰ x in subst P (sym (cond-true (is_in x buffer) (x ∷ []) [] (in_is x buffer kept))) (mathlib.Core.List.Memᴰ.head refl) in
    record {
      world = w5;
      run = run5;
      what = hello;
      was_said = is_said;
      was_buffered = was-kept;
      is_delivered = (promise p b r w5 run5 0).delivers x was-kept refl (omega arith);
    }

pub exact : Exact
exact p b r c i z h e =
    let l = limits p r in
    let u = ours p b.mac in
    let w0 : World u = start p b u in
    let w1 : World u = brought 0 (ticked c) w0 in
    let w2 : World u = passed (c + p.error) w1 in
    let w3 : World u = told_key p i w2 in
    let out : Gets w3.air (key_term p i) = has (mathlib.Core.List.Memᴰ.head refl) in
    record {
      world = w3;
      run = onward (onward (onward here (brings w0 0 (ticked c) tt)) (passes w1 (c + p.error) (omega arith))) (discloses w2 i h (leb-true _ _ e));
      clock_is = cond-false (ltb c 0) 0 c (le-ltb c 0 (omega arith));
      within = record { not_slow = omega arith; not_fast = omega arith };
      nothing_said = refl;
      key_out = out;
      forged = λ s q. let P : ℕ → Type 0 = λ k. Gets w3.air (key_term p k) in cut (mac (mac (subst P (sym q) out) (text (2 ∷ []))) (text (message_bytes s)));
    }
