-- What was delivered of one interval, after the messages that were met.
use Rattle.std.proofs.Common.{◌≡◌, ℕ, ◌+◌, ◌<◌, ◌≤◌, true, false, List, [], ◌∷◌, ◌++◌, Some, None, Option, Bor, Iter, length, get_or, take, sym, ap, ◌∙◌, arith}
use Rattle.std.proofs.lemmas.Bool.{eq-eqb, ne_eqb}
use Rattle.std.proofs.lemmas.List.{append-nil, append_assoc, get_or-take, length-take-le, take_all}
use Rattle.std.proofs.lemmas.Iterator.{zips}
use Rattle.std.proofs.lemmas.Slice.Zip.{zip_turn, zip_end}
use Rattle.std.proofs.iter.Yields.{fronts}
use Rattle.std.specs.Iterator.{Yields}
use Rattle.std.specs.Iterator.Adapters.{zip_first, zip_second}
use Rattle.std.specs.Slice.Iter.{iter_rest}
use Rattle.std.specs.declared.iter.Zip.{Zip}
use Rattle.sha256.specs.Hmac.{hmac}
use Rattle.model.specs.Receiver.{Message, is_right, of_interval, right_of}
use Rattle.keychain.specs.Chain.{absent_key}
use Rattle.keychain.specs.declared.key.Key.{Key}
use Rattle.buffer.specs.declared.message.Buffered.{Buffered}
use Rattle.buffer.specs.declared.room.Buffer.{Buffer}
use Rattle.buffer.specs.Buffers.{as_message, messages_of, saids_in, saids_of, OneKey}
use Rattle.buffer.proofs.Lists.{of_none, of_push, saids_push, count_is}
use Rattle.buffer.proofs.Order.{right_none, right_push, one_met}

-- of interval i, from the messages ws of b: what out has now and had at first, and how many tags were worked out
pub record Part (i : ℕ) (b : Buffer) (keys : List Key) (first out : Buffer) (tags : ℕ) (ws : List Message) : Type 0 where
  pub count : out.len ≤ first.len + of_interval i ws
  pub tags_are : tags ≡ of_interval i ws
  pub saids_are : (k : List ℕ) → OneKey i k b keys → saids_of out ≡ saids_of first ++ right_of hmac k i ws

pub part_none : (i : ℕ) (b : Buffer) (keys : List Key) (out : Buffer) → Part i b keys out out 0 []
part_none i b keys out = record { count = omega arith; tags_are = sym (of_none i); saids_are = λ k o. rw (right_none, append-nil) }

module _ {i : ℕ} {b : Buffer} {keys : List Key} {first out : Buffer} {tags : ℕ} {ws ws' : List Message} (x : Message) (e : ws' ≡ ws ++ x ∷ []) (h : Part i b keys first out tags ws) where
  -- one of another interval
  pub part_other : (x.says.interval ≡ i → ⊥) → Part i b keys first out tags ws'
  part_other n =
      let f = ne_eqb x.says.interval i n in
      let c : of_interval i ws' ≡ of_interval i ws + 0 = rw (e, of_push i ws x, f) in
      record {
        count = omega (arith, c, h.count);
        tags_are = omega (arith, c, h.tags_are);
        saids_are = λ k o. let r : right_of hmac k i ws' ≡ right_of hmac k i ws = rw (e, right_push hmac k i ws x, f, append-nil) in rw r (h.saids_are k o);
      }

  one_more : x.says.interval ≡ i → of_interval i ws' ≡ of_interval i ws + 1
  one_more q = let t = eq-eqb x.says.interval i q in rw (e, of_push i ws x, t)

  -- there is room for it if there is for all of its interval
  pub part_room : (n : ℕ) → x.says.interval ≡ i → of_interval i ws' ≤ n → first.len + n ≤ 64 → out.len < 64
  part_room n q l m = omega (arith, one_more q, h.count, l, m)

  module _ (key : List ℕ) (of_place : (k : List ℕ) → OneKey i k b keys → key ≡ k) (q : x.says.interval ≡ i) where
    tested : (k : List ℕ) → OneKey i k b keys → is_right hmac k x ≡ is_right hmac key x
    tested k o = ap (λ u. is_right hmac u x) (sym (of_place k o))

    -- one whose tag isn't right
    pub part_wrong : is_right hmac key x ≡ false → Part i b keys first out (tags + 1) ws'
    part_wrong z = record {
      count = omega (arith, one_more q, h.count);
      tags_are = omega (arith, one_more q, h.tags_are);
      saids_are = λ k o.
          let t = eq-eqb x.says.interval i q in
          let g = tested k o ∙ z in
          let r : right_of hmac k i ws' ≡ right_of hmac k i ws = rw (e, right_push hmac k i ws x, t, g, append-nil) in
          rw r (h.saids_are k o);
    }

    -- one whose tag is right
    pub part_right : (now : Buffer) → now.len ≡ out.len + 1 → messages_of now ≡ messages_of out ++ x ∷ [] → is_right hmac key x ≡ true → Part i b keys first now (tags + 1) ws'
    part_right now n m z = record {
      count = omega (arith, one_more q, h.count, n);
      tags_are = omega (arith, one_more q, h.tags_are);
      saids_are = λ k o.
          let t = eq-eqb x.says.interval i q in
          let g = tested k o ∙ z in
          let r : right_of hmac k i ws' ≡ right_of hmac k i ws ++ x.says ∷ [] = rw (e, right_push hmac k i ws x, t, g) in
          let s : saids_of now ≡ saids_of out ++ x.says ∷ [] = ap saids_in m ∙ saids_push (messages_of out) x in
          rw (s, h.saids_are k o, r, append_assoc (saids_of first) (right_of hmac k i ws));
    }

-- a loop over the messages that are there, each with the key noted for its place
module _ (b : Buffer) (keys : List Key) (ys : List (Bor Buffered × Bor Key)) (s t u : Zip (Iter Buffered) (Iter Key)) (r : Option (Bor Buffered × Bor Key)) (first : iter_rest (zip_first s) ≡ take b.len b.messages) (second : iter_rest (zip_second s) ≡ keys) (y : Yields (zips fronts fronts) s ys t) where
  pub record Turn (p : Bor Buffered × Bor Key) : Type 0 where
    pub more : take (length (ys ++ p ∷ [])) (messages_of b) ≡ take (length ys) (messages_of b) ++ as_message p.0.now ∷ []
    pub of_place : (i : ℕ) (k : List ℕ) → p.0.now.numbers.interval ≡ i → OneKey i k b keys → p.1.now.bytes ≡ k

  pub turned : (p : Bor Buffered × Bor Key) → r ≡ Some p → zips fronts fronts t r u → Turn p
  turned p e h =
      let ks = take b.len b.messages in
      let z = zip_turn ks keys ys s t u r first second y p e h in
      let l : length ks ≡ b.len = length-take-le b.len b.messages (omega (arith, b.few, b.sized)) in
      let x = p.0.now in
      record {
        more = one_met ks ys p x z.0 (z.2 x);
        of_place = λ i k q o.
            let d : get_or b.messages (length ys) x ≡ x = sym (get_or-take b.len b.messages (length ys) x (omega (arith, z.0, l))) ∙ sym (z.2 x) in
            ap (λ (a : Key). a.bytes) (z.3 absent_key) ∙ o (length ys) x (omega (arith, z.0, l)) (ap (λ (a : Buffered). a.numbers.interval) d ∙ q);
      }

  pub all_met : length keys ≡ 64 → r ≡ None → zips fronts fronts t r u → take (length ys) (messages_of b) ≡ messages_of b
  all_met n e h =
      let ks = take b.len b.messages in
      let z = zip_end ks keys ys s t u r first second y e h in
      let l : length ks ≡ b.len = length-take-le b.len b.messages (omega (arith, b.few, b.sized)) in
      take_all (length ys) (messages_of b) (omega (arith, z, l, n, count_is b, b.few))
