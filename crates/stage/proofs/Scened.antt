-- What a scene is after something was done on it.
use Rattle.std.proofs.Common.{◌≡◌, ℕ, ◌+◌, ◌<◌, ◌≤◌, true, false, List, [], ◌∷◌, ◌++◌, length, get_or, set, take, is_some, Some, None, Ok, Err, vec_items, vec_len, Option, Result, Vec, refl, sym, subst, ap, ◌∙◌, arith}
use lib.ListN.{length-map}
use Rattle.std.specs.declared.alloc.Global.{Global}
use Rattle.std.specs.Option.{option_map}
use Rattle.std.specs.List.{slice_get}
use Rattle.std.proofs.lemmas.Option.{slice_get-map, slice_get_read, slice_get_past}
use Rattle.std.proofs.lemmas.List.{map-append, map-set, take_more}
use Rattle.std.proofs.lemmas.List.Sums.{fold-append}
use Rattle.model.specs.Receiver.{Said, Message}
use Rattle.buffer.specs.Buffers.{as_said, as_message, messages_in, saids_in}
use Rattle.buffer.specs.declared.message.Buffered.{Buffered}
use Rattle.receiver.specs.Calls.{Input, own_clock, from_air, state_after, delivered_of}
use Rattle.receiver.specs.State.{meant, params_of, state_of}
use Rattle.receiver.specs.declared.outcome.Accepted.{Accepted}
use Rattle.receiver.specs.declared.outcome.Accepted.TheVariants as accepted
use Rattle.receiver.specs.declared.state.Receiver.{Receiver}
use Rattle.timing.specs.declared.refusal.Refusal.{Refusal}
use Rattle.wire.specs.Bytes.{over}
use Rattle.wire.specs.Formats.{key_encoded, message_encoded, tick_encoded}
use Rattle.sender.specs.State.{State, ticked, tick_answer, tick_bytes, Ticked, back, nothing, told, said, say_answer, Spoken, refused, sent, sent_length, sent_over}
use Rattle.std.proofs.lemmas.Grind.{common_steps}
use Rattle.stage.specs.declared.event.Deed.TheVariants.{Passed, Disclosed, Said as SaidOne, NotSaid, Told, Delivered, Judged}
use Rattle.stage.specs.declared.event.Deed.{Deed}
use Rattle.timing.specs.Judged.{judged}
use Rattle.stage.specs.Saids.{which_said}
use Rattle.stage.specs.Scenes.{Site, Scene, bytes_of, named, site_of, sites_of, site_after, of_site, noted, on_air, tick_noted, time_passed, said_noted, say_noted, spoken, unsaid_too, delivered_one, delivered_all, clock_told, heard_by, hearing_of, judged_by}

-- a message more
pub messages_more : (ms : List Buffered) (m : Buffered) → messages_in (ms ++ m ∷ []) ≡ messages_in ms ++ as_message m ∷ []
unfolding messages_in
messages_more ms m = map-append as_message ms (m ∷ [])

pub saids_more : (ms : List Buffered) (m : Buffered) → saids_in (messages_in (ms ++ m ∷ [])) ≡ saids_in (messages_in ms) ++ as_said m ∷ []
unfolding saids_in
saids_more ms m = rw (messages_more ms m) (map-append (λ (w : Message). w.says) (messages_in ms) (as_message m ∷ []))

pub saids_none : saids_in (messages_in []) ≡ []
unfolding saids_in messages_in
saids_none = refl

-- a receiver that is there, and none
pub there : (rs xs : List Receiver) (n : ℕ) (r : Receiver) → xs ≡ rs → n < length xs → r ≡ get_or xs n r → slice_get (sites_of rs) n ≡ Some (site_of r)
there rs xs n r q h e = rw (← q) (slice_get-map site_of xs n ∙ ap (option_map site_of) (slice_get_read xs (length xs) n r refl h e))

pub absent : (rs xs : List Receiver) (n : ℕ) → xs ≡ rs → length xs ≤ n → slice_get (sites_of rs) n ≡ None
absent rs xs n q h = rw (← q) (slice_get-map site_of xs n ∙ ap (option_map site_of) (slice_get_past xs n h))

pub at_none : (n : ℕ) (f : Site → Scene) (s : Scene) → slice_get s.sites n ≡ None → s ≡ of_site n f s
at_none n f s e = rw e refl

-- a receiver is handed something
pub handed : (rs : List Receiver) (n : ℕ) (r q : Receiver) (i : Input) → q.parameters ≡ r.parameters → state_of q ≡ state_after (params_of r) i (state_of r) → sites_of (set rs n q) ≡ set (sites_of rs) n (site_after i (site_of r))
handed rs n r q i p st = let e : site_of q ≡ site_after i (site_of r) = cc in map-set site_of rs n q ∙ ap (set (sites_of rs) n) e

-- what is delivered and wasn't said
pub unsaid_one : (l r : ℕ) (d : Said) (s t : Scene) (o : Option ℕ) (us : List Said) → o ≡ which_said s.said d → is_some o ≡ false → t ≡ noted l (Delivered r o) s → us ≡ t.unsaid ++ d ∷ [] → record t { unsaid = us } ≡ delivered_one l r d s
unsaid_one l r d s t (Some k) us e h f g = cc
unsaid_one l r d s t None us e h f g =
    subst (λ o. record t { unsaid = us } ≡ unsaid_too o d (noted l (Delivered r o) s)) e
    (ap (λ v. record t { unsaid = v }) g ∙ ap (λ (x : Scene). record x { unsaid = x.unsaid ++ d ∷ [] }) f)

pub said_one : (l r : ℕ) (d : Said) (s t : Scene) (o : Option ℕ) → o ≡ which_said s.said d → is_some o ≡ true → t ≡ noted l (Delivered r o) s → t ≡ delivered_one l r d s
said_one l r d s t None e h f = cc
said_one l r d s t (Some k) e h f = subst (λ o. t ≡ unsaid_too o d (noted l (Delivered r o) s)) e f

-- one delivery more
pub more_delivered : (l r i : ℕ) (ms : List Buffered) (d : Buffered) (s t u : Scene) → i < length ms → d ≡ get_or ms i d → t ≡ delivered_all l r (saids_in (messages_in (take i ms))) s → u ≡ delivered_one l r (as_said d) t →
    u ≡ delivered_all l r (saids_in (messages_in (take (i + 1) ms))) s
more_delivered l r i ms d s t u h y e f =
    let more : take (i + 1) ms ≡ take i ms ++ d ∷ [] = take_more ms i d h ∙ ap (λ z. take i ms ++ z ∷ []) (sym y) in
    rw (more, saids_more (take i ms) d) (f ∙ ap (delivered_one l r (as_said d)) e ∙ sym (fold-append (λ t d. delivered_one l r d t) s (saids_in (messages_in (take i ms))) (as_said d ∷ [])))

-- what a tick came to, by its bytes
is_back : (a : Ticked) (e : Refusal) → Err e ≡ tick_bytes a → a ≡ back
is_back back e h = refl
is_back nothing e h = cc
is_back (told k) e h = cc

is_nothing : (a : Ticked) → Ok None ≡ tick_bytes a → a ≡ nothing
is_nothing back h = cc
is_nothing nothing h = refl
is_nothing (told k) h = cc

pub passed_back : (l t : ℕ) (s : Scene) (u : State) (e : Refusal) → u ≡ ticked s.sender t → Err e ≡ tick_bytes (tick_answer s.sender t) → record s { sender = u } ≡ time_passed l t s
unfolding time_passed
passed_back l t s u e h b = let a : tick_answer s.sender t ≡ back = is_back _ e b in rw (h, a) refl

pub passed_on : (l t : ℕ) (s : Scene) (u : State) → u ≡ ticked s.sender t → Ok None ≡ tick_bytes (tick_answer s.sender t) → noted l Passed (record s { time = t; sender = u }) ≡ time_passed l t s
unfolding time_passed
passed_on l t s u h b = let a : tick_answer s.sender t ≡ nothing = is_nothing _ b in rw (h, a) refl

pub passed_key : (l t n : ℕ) (s v : Scene) (u : State) (b : List ℕ) → u ≡ ticked s.sender t → Ok (Some b) ≡ tick_bytes (tick_answer s.sender t) → n ≡ length s.air → v ≡ on_air b (noted l Passed (record s { time = t; sender = u })) →
    noted l (Disclosed (n + 1)) v ≡ time_passed l t s
unfolding time_passed
passed_key l t n s v u b h q e y = rw (y, h, e) (at (tick_answer s.sender t) q)
  where
    at : (a : Ticked) → Ok (Some b) ≡ tick_bytes a → noted l (Disclosed (length s.air + 1)) (on_air b (noted l Passed (record s { time = t; sender = ticked s.sender t }))) ≡ tick_noted l t a (record s { sender = ticked s.sender t })
    at back q = cc
    at nothing q = cc
    at (told k) q = let w : b ≡ key_encoded k = cc in rw w refl

-- what saying something came to
pub said_not : (l : ℕ) (t : List ℕ) (s : Scene) (u : State) (e : Refusal) → u ≡ said s.sender t → Err e ≡ sent_length (say_answer s.sender t) → noted l (NotSaid e) (record s { sender = u }) ≡ spoken l t s
unfolding spoken
said_not l t s u e h q = rw h (at (say_answer s.sender t) q)
  where
    at : (a : Spoken) → Err e ≡ sent_length a → noted l (NotSaid e) (record s { sender = said s.sender t }) ≡ say_noted l a (record s { sender = said s.sender t })
    at (refused f) q = let w : e ≡ f = cc in rw w refl
    at (sent x) q = cc

take_over : (xs ys : List ℕ) → take (length xs) (over xs ys) ≡ xs
take_over xs ys = grind (arith, common_steps)

pub said_so : (l n count : ℕ) (t memory old : List ℕ) (s v : Scene) (u : State) → u ≡ said s.sender t → Ok count ≡ sent_length (say_answer s.sender t) → memory ≡ sent_over (say_answer s.sender t) old → n ≡ length s.air →
    v ≡ on_air (take count memory) (record s { sender = u }) → noted l (SaidOne (n + 1) (length v.said)) v ≡ spoken l t s
unfolding spoken
said_so l n count t memory old s v u h q w e y = rw (y, h, e) (at (say_answer s.sender t) q w)
  where
    at : (a : Spoken) → Ok count ≡ sent_length a → memory ≡ sent_over a old → said_noted l (length s.air + 1) (on_air (take count memory) (record s { sender = said s.sender t })) ≡ say_noted l a (record s { sender = said s.sender t })
    at (refused f) q w = cc
    at (sent x) q w =
        let k : count ≡ length (message_encoded x) = cc in
        let b : take count memory ≡ message_encoded x = ap (λ i. take i memory) k ∙ ap (take (length (message_encoded x))) w ∙ take_over (message_encoded x) old in
        ap (λ z. said_noted l (length s.air + 1) (on_air z (record s { sender = said s.sender t }))) b

-- what is said fits where it is written
pub count_within : (a : Spoken) (old memory : List ℕ) (n : ℕ) → Ok n ≡ sent_length a → memory ≡ sent_over a old → n ≤ length memory
count_within (refused e) old memory n q w = cc
count_within (sent x) old memory n q w = let k : n ≡ length (message_encoded x) = cc in rw (k, w) (grind (arith, common_steps))

-- lengths
pub air_counted : (v : Vec (Vec ℕ Global) Global) → vec_len v ≡ length (bytes_of v.items)
air_counted v = v.ok.0 ∙ sym (length-map v.items vec_items)

pub messages_counted : (v : Vec Buffered Global) → vec_len v ≡ length (messages_in v.items)
unfolding messages_in
messages_counted v = v.ok.0 ∙ sym (length-map v.items as_message)

-- an outcome in the code and in the model
pub named_meant : (o : Result Accepted Refusal) → named (meant o) ≡ o
named_meant (Ok accepted.Told) = refl
named_meant (Ok accepted.Buffered) = refl
named_meant (Ok accepted.Already) = refl
named_meant (Ok accepted.Taken) = refl
named_meant (Err e) = refl

-- what comes of a receiver that is there
pub told_one : (l n t : ℕ) (r : Site) (s : Scene) (rs : List Site) → slice_get s.sites n ≡ Some r → rs ≡ set s.sites n (site_after (own_clock (tick_encoded t)) r) → noted l (Told (n + 1) t) (record s { sites = rs }) ≡ clock_told l n t s
unfolding clock_told
told_one l n t r s rs e w = rw (w, e) refl

pub heard_one : (l n : ℕ) (k : Option ℕ) (b : List ℕ) (ds : List Said) (d : Deed) (r : Site) (s v : Scene) (rs : List Site) → slice_get s.sites n ≡ Some r → rs ≡ set s.sites n (site_after (from_air b) r) →
    d ≡ hearing_of r (n + 1) k s.said b → ds ≡ delivered_of r.numbers (from_air b) r.state → v ≡ noted l d (record s { sites = rs }) → delivered_all l (n + 1) ds v ≡ heard_by l k n b s
unfolding heard_by
heard_one l n k b ds d r s v rs e w f g y = rw (y, w, f, g, e) refl

pub judged_one : (l n i : ℕ) (j : Result Unit Refusal) (r : Site) (s : Scene) → slice_get s.sites n ≡ Some r → j ≡ judged r.numbers r.state.clock i → noted l (Judged (n + 1) r.state.clock i j) s ≡ judged_by l n i s
unfolding judged_by
judged_one l n i j r s e f = rw (f, e) refl
