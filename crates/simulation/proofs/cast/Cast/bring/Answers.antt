use Rattle.std.proofs.Common.{◌≡◌, ◌-◌, ◌<◌, length, get_or, Some, vec_items, arith, ap, ◌∙◌, subst}
use Rattle.std.proofs.lemmas.List.{get_or_default}
use Rattle.std.proofs.lemmas.Result.{IfOk-weaker}
use Rattle.simulation.specs.Casts.{Hears}
use Rattle.simulation.proofs.cast.Cast.bring.Goals as goal

pub returns : goal.returns
returns c =
    let air = vec_items c.args.self.now.air in
    let i = c.in_ok-i.i in
    let there : i < length air = omega (arith, c.in_ok-i.ensures.0, c.len.ensures) in
    let here : i ≡ c.args.number - 1 = omega (arith, c.in_ok-i.ensures.1) in
    IfOk-weaker c.reach.result _ _
    (λ d h. record {
      first = omega (arith, c.in_ok-i.ensures.1);
      last = omega (arith, c.in_ok-i.ensures.0, c.in_ok-i.ensures.1, c.len.ensures);
      hears = λ v.
          let at : c.as_slice-2.result.now ≡ vec_items (get_or air (c.args.number - 1) v) =
          c.as_slice-2.ensures.value ∙ c.in_ok-bytes.ensures.items ∙ c.as_slice.ensures.value
          ∙ ap vec_items (c.index.ensures ∙ get_or_default air i c.index.result.now v there ∙ ap (λ k. get_or air k v) here) in
          subst (λ x. Hears (Some c.args.number) c.args.to x c.args.self.now c.reach.new.self d) at h;
    })
    c.reach.ensures
