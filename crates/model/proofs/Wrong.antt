-- What becomes of receivers that are wrong in one way.
use Rattle.std.proofs.Common.{◌≡◌, ℕ, List, [], ◌∷◌, ◌++◌, sym, refl, ap, subst, arith}
use mathlib.Core.List.{Memᴰ}
use Rattle.std.proofs.lemmas.Bool.{cond-true}
use Rattle.timing.specs.Time.{Params, params}
use Rattle.model.specs.Term.{Text, Bytes, Gets, has, text, mac, cut, val, down}
use Rattle.model.specs.Receiver.{Said, Event, ticked, heard, disclosed, State, is_in, of_interval, message_bytes, judge_key, is_taken, right_up_to, taken, walked, later_than}
use Rattle.model.specs.Run.{key_term, key_bytes, tag_of, message_of, Utterance, World, start, Later, here, onward, passes, says, discloses, brings, passed, uttered, told_key, brought, BringsKey, Within}
use Rattle.model.specs.Promise.{WasSaid}
use Rattle.model.specs.Wrong.{without_clock_error, twice_the_error, keeps_nothing, takes_any_key}
use Rattle.model.specs.Witness.{minutes, ToyFooled, NeedsError, ErrorOnce, MustKeep, MustCompare, blanks, MessageFirst}
use Rattle.model.proofs.Delivery.{delivery_has}
use Rattle.model.proofs.Promises.{own_fits}
use Rattle.model.proofs.Witness.{own_key, no_key, own_tag, hello, may_hello}

-- the clock is five seconds slow; the key of interval 1 has just been disclosed
pub toy_fooled : ToyFooled
unfolding is_in of_interval
toy_fooled b =
    let p = minutes in
    let u = without_clock_error p b.mac in
    let w0 : World u = start p b u in
    let w1 : World u = passed 120 w0 in
    let w2 : World u = told_key p 1 w1 in
    let w3 : World u = brought 0 (ticked 115) w2 in
    let x = message_of p b hello in
    let e : Event = heard x 0 [] in
    let w4 : World u = brought 0 e w3 in
    let d : Event = disclosed 1 (key_bytes p b 1) in
    let w5 : World u = brought 0 d w4 in
    let key : Gets w3.air (key_term p 1) = has (mathlib.Core.List.Memᴰ.head refl) in
    let forged : Gets w3.air (tag_of p hello) = cut (mac (mac key (text (2 ∷ []))) (text (message_bytes hello))) in
    let near : Within p 120 115 = record { not_slow = omega arith; not_fast = omega arith } in
    let own : BringsKey p b w4.air 0 1 (key_bytes p b 1) = own_key p b w4.air 0 1 (omega arith) (omega arith) (mathlib.Core.List.Memᴰ.head refl) in
    let run4 : Later p b u w0 w4 = onward (onward (onward (onward here (passes w0 120 (omega arith))) (discloses w1 1 (omega arith) (omega arith))) (brings w2 0 (ticked 115) tt)) (brings w3 0 e (near, own_tag p b w3.air hello forged, no_key p b w3.air 0)) in
    let held : State = record { clock = 115; newest = 0; key = key_bytes p b 0; buffer = x ∷ [] } in
    let fits : judge_key (params 60 1 0 10) b.mac 1 (key_bytes p b 1) held ≡ taken = own_fits (params 60 1 0 10) b held refl 1 (omega arith) (omega arith) (omega arith) in
    let new : Memᴰ hello (right_up_to b.mac (key_bytes p b 1) 1 1 (x ∷ [])) = delivery_has p b (key_bytes p b 1) 1 1 (x ∷ []) x refl (omega arith) (omega arith) (mathlib.Core.List.Memᴰ.head refl) refl (omega arith) (omega arith) in
    record {
      world = w5;
      run = onward run4 (brings w4 0 d own);
      what = hello;
      nothing_said = refl;
      is_delivered = let P : List Said → Type 0 = Memᴰ hello in subst P (sym (cond-true (is_taken (judge_key (params 60 1 0 10) b.mac 1 (key_bytes p b 1) held)) (right_up_to b.mac (key_bytes p b 1) 1 1 (x ∷ [])) [] (ap is_taken fits))) new;
    }

-- an HMAC for which nothing has to be worked out
some_bytes : Bytes
some_bytes = record { mac = λ k t. k ++ t; drawn = λ c. [] }

unsaid : (p : Params) (s : Said) → WasSaid p [] s → ⊥
unsaid p s r = mathlib.Core.List.Memᴰ.not-nil r.is_said

pub needs_error : NeedsError
needs_error f =
    let t = toy_fooled some_bytes in
    let r = (f minutes some_bytes refl t.world t.run 0).was_said t.what t.is_delivered in
    let P : List Utterance → Type 0 = λ us. WasSaid minutes us t.what in
    unsaid minutes t.what (subst P t.nothing_said r)

-- said at 0, and brought at 109 to a clock that is five seconds fast
pub error_once : ErrorOnce
unfolding is_in of_interval
error_once f =
    let p = minutes in
    let b = some_bytes in
    let u = twice_the_error p b.mac in
    let w0 : World u = start p b u in
    let w1 : World u = uttered p hello w0 in
    let w2 : World u = passed 109 w1 in
    let w3 : World u = brought 0 (ticked 114) w2 in
    let run : Later p b u w0 w3 = onward (onward (onward here (says w0 hello (may_hello p (omega arith) (omega arith)))) (passes w1 109 (omega arith))) (brings w2 0 (ticked 114) tt) in
    let is_said : WasSaid p w3.said hello = record { at_tick = 0; is_said = mathlib.Core.List.Memᴰ.head refl; its_interval = refl } in
    let near : Within p 109 114 = record { not_slow = omega arith; not_fast = omega arith } in
    mathlib.Core.List.Memᴰ.not-nil
    ((f p b refl w3 run 0).buffers hello 0 [] is_said (near, own_tag p b w3.air hello (has (mathlib.Core.List.Memᴰ.head refl)), no_key p b w3.air 0) (omega arith) (omega arith) refl).0

pub must_keep : MustKeep
unfolding is_in of_interval
must_keep f =
    let p = minutes in
    let b = some_bytes in
    let u = keeps_nothing p b.mac in
    let w0 : World u = start p b u in
    let w1 : World u = uttered p hello w0 in
    let run : Later p b u w0 w1 = onward here (says w0 hello (may_hello p (omega arith) (omega arith))) in
    let is_said : WasSaid p w1.said hello = record { at_tick = 0; is_said = mathlib.Core.List.Memᴰ.head refl; its_interval = refl } in
    let near : Within p 0 0 = record { not_slow = omega arith; not_fast = omega arith } in
    mathlib.Core.List.Memᴰ.not-nil
    ((f p b refl w1 run 0).buffers hello 0 [] is_said (near, own_tag p b w1.air hello (has (mathlib.Core.List.Memᴰ.head refl)), no_key p b w1.air 0) (omega arith) (omega arith) refl).0

-- bytes that fit no key
pub must_compare : MustCompare
unfolding val down some_bytes
must_compare f =
    let p = minutes in
    let b = some_bytes in
    let u = takes_any_key p b.mac in
    let w0 : World u = start p b u in
    let junk : List ℕ = 7 ∷ [] in
    let brought-junk : BringsKey p b w0.air 0 1 junk = record { term = Text junk; can = text junk; bytes = refl; apart = λ h e. absurd (let z : ◌≡◌ {A = ℕ} 7 1 = cc in omega arith) } in
    let same = ((f p b refl w0 here 0).leaves 1 junk brought-junk (λ e. let z : ◌≡◌ {A = ℕ} 7 1 = cc in omega arith)).0 in
    let z : ◌≡◌ {A = ℕ} 1 0 = ap (λ (s : State). s.newest) same in
    omega arith

pub message_first : MessageFirst
unfolding is_in of_interval blanks walked later_than
message_first = (refl, refl, refl, refl)
