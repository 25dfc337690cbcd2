use Rattle.std.proofs.Common.{arith, ◌≡◌, ◌∙◌, List, Bool, Option, ℕ, ◌++◌, ◌∷◌, [], map, ap, ap₂, sym}
use Rattle.std.proofs.lemmas.List.FromFn.{map-range_with_len_more}
use Rattle.iq_hng.specs.Keys.{bits_of, plane_bit}
use Rattle.iq_hng.specs.Slices.{plane_of}
use Rattle.iq_hng.proofs.Rows.{plane_by_keys}
use Rattle.iq_hng.proofs.planes.planes.Goals as goal

pub loop-j-init : goal.loop-j-init
loop-j-init c = record {
  planes =
      let plane : c.in_ok-plane.field-0 ≡ plane_of (bits_of c.args.width) c.args.numbers.now.values 0 =
      c.in_ok-plane.ensures.plane ∙ ap (λ (keys : List (Option ℕ)). map (plane_bit 0) keys) (c.as_slice.ensures.value ∙ c.in_ok-keys.ensures.keys) ∙ plane_by_keys (bits_of c.args.width) 0 c.args.numbers.now.values in
      c.in_ok-push.ensures.items ∙ ap₂ (λ (xss : List (List Bool)) (xs : List Bool). xss ++ xs ∷ []) c.in_ok-made.ensures.items plane;
}

pub loop-j-preserved : goal.loop-j-preserved
loop-j-preserved c = record {
  planes =
      let plane : c.in_ok-plane-2.field-0 ≡ plane_of (bits_of c.args.width) c.args.numbers.now.values c.loop-j.j =
      c.in_ok-plane-2.ensures.plane ∙ ap (λ (keys : List (Option ℕ)). map (plane_bit c.loop-j.j) keys) (c.as_slice-in-loop-j.ensures.value ∙ c.in_ok-keys.ensures.keys) ∙ plane_by_keys (bits_of c.args.width) c.loop-j.j c.args.numbers.now.values in
      c.in_ok-push-2.ensures.items ∙ ap₂ (λ (xss : List (List Bool)) (xs : List Bool). xss ++ xs ∷ []) c.loop-j.invariant.planes plane
      ∙ sym (map-range_with_len_more (plane_of (bits_of c.args.width) c.args.numbers.now.values) 0 c.loop-j.j c.loop-j.j (omega arith));
}
