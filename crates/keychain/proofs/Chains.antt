-- One more step of the chain, and the model's terms in bytes.
use Rattle.std.proofs.Common.{◌≡◌, ℕ, ◌+◌, ◌-◌, List, [], ◌∷◌, replicate, Result, refl, ap, add-one, arith}
use Rattle.std.proofs.lemmas.Bool.Decides.{nat_tests}
use Rattle.std.proofs.lemmas.List.{get_or-replicate}
use Rattle.sha256.specs.Hmac.{hmac}
use Rattle.model.specs.Term.{val, Seed}
use Rattle.std.specs.Result.{result_unwrap_or}
use Rattle.timing.specs.declared.refusal.Refusal.{Refusal}
use Rattle.model.specs.Receiver.{walk_steps, walked, tag_bytes, message_bytes}
use Rattle.model.proofs.Terms.{val_down}
use Rattle.keychain.specs.declared.key.Key.{Key}
use Rattle.keychain.specs.Chain.{key_down, zero_key, absent_key, Collected, ahead, drawing, ChainTerms}

pub down_none : (k : List ℕ) → key_down 0 k ≡ k
unfolding walked
down_none k = refl

pub down_more : (n : ℕ) (k : List ℕ) → key_down (n + 1) k ≡ hmac (key_down n k) (1 ∷ [])
unfolding walked
down_more n k = rw add-one

pub collected_none : (k wanted : List ℕ) (keys : List Key) → keys ≡ replicate 64 zero_key → Collected 0 k wanted keys
collected_none k wanted keys e i h =
    let z = get_or-replicate 64 i zero_key absent_key h in
    grind (arith, nat_tests, z)

pub steps_ahead : (j n : ℕ) (r : Result ℕ Refusal) → r ≡ ahead j n → walk_steps j n ≡ result_unwrap_or r 0
steps_ahead j n r e = grind (arith, nat_tests)

pub chain_terms : ChainTerms
unfolding val
chain_terms p d = record {
  key_is = λ i. val_down (drawing d) (p.last - i) (Seed 0);
  tag_is = λ s. ap (λ (k : List ℕ). tag_bytes hmac k (message_bytes s)) (val_down (drawing d) (p.last - s.interval) (Seed 0));
}
