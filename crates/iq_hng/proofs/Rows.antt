-- Laws of rows and of planes.
use Rattle.std.proofs.Common.{arith, ◌≡◌, ◌<◌, ◌≤◌, ℕ, suc, ◌+◌, ◌*◌, Bool, false, List, [], ◌∷◌, ◌++◌, ◌&&◌, ◌||◌, not, length, get_or, map, refl, ap, ap₂, sym, ◌∙◌}
use Rattle.std.proofs.Math.Nat.{mul-le-mul_right, suc-mul}
use Rattle.std.proofs.lemmas.Simd.{length-zip2}
use Rattle.std.proofs.lemmas.List.{ext_get_or, get_or-map, length-map, map-append}
use Rattle.std.proofs.lemmas.List.FromFn.{length-map-range_with_len, get_or-map-range_with_len}
use Rattle.std.specs.List.{All, range_with_len}
use Rattle.std.proofs.lemmas.List.Elements.{All-get_or}
use Rattle.iq_bitmap.specs.Bits.{both, either, difference}
use Rattle.iq_base.specs.declared.values.Value.{Value}
use Rattle.iq_base.specs.declared.values.Value.TheVariants as values
use Rattle.iq_cells.specs.Packed.{value_at}
use Rattle.iq_planes.specs.Planes.{plane_at, ArePlanes, grown}
use Rattle.iq_hng.specs.Keys.{key_of, plane_bit, slice_bit}
use Rattle.iq_hng.specs.Slices.{plane_of, planes_of}

-- ROWS ONE AFTER THE OTHER

-- all rows
pub rows_are : {X : Type 0} (f : X → Bool) (xs : List X) (d : X) (bits : List Bool) → length bits ≡ length xs
    → ((i : ℕ) → i < length xs → get_or bits i false ≡ f (get_or xs i d)) → bits ≡ map f xs
rows_are f xs d bits long each =
    ext_get_or false bits (map f xs) (long ∙ sym (length-map xs f))
    (λ i less. let within : i < length xs = omega (arith, long, less) in
    each i within ∙ sym (get_or-map f xs i d false within))

-- PLANES

pub plane_at-planes_of : (bits : ℕ) (vs : List Value) (j : ℕ) → j < bits + 1 → plane_at j (planes_of bits vs) ≡ plane_of bits vs j
plane_at-planes_of bits vs j less = get_or-map-range_with_len (plane_of bits vs) 0 (bits + 1) j j [] less (omega arith)

pub are_planes : (bits : ℕ) (vs : List Value) → ArePlanes (bits + 1) (length vs) (planes_of bits vs)
are_planes bits vs = record {
  count = length-map-range_with_len (plane_of bits vs) 0 (bits + 1);
  long = λ j less. ap length (plane_at-planes_of bits vs j less) ∙ length-map vs _;
}

grown_each : (f g h : ℕ → List Bool) → ((j : ℕ) → f j ++ g j ≡ h j) → (js : List ℕ) → grown (map f js) (map g js) ≡ map h js
grown_each f g h e [] = refl
grown_each f g h e (j ∷ js) = ap₂ (λ (xs : List Bool) (xss : List (List Bool)). xs ∷ xss) (e j) (grown_each f g h e js)

pub planes_append : (bits : ℕ) (vs more : List Value) → grown (planes_of bits vs) (planes_of bits more) ≡ planes_of bits (vs ++ more)
planes_append bits vs more = grown_each (plane_of bits vs) (plane_of bits more) (plane_of bits (vs ++ more)) (λ j. sym (map-append _ vs more)) (range_with_len 0 (bits + 1))

-- SETS OF ROWS

pub length-both : (a b : List Bool) → length a ≡ length b → length (both a b) ≡ length a
length-both a b e = length-zip2 (λ (x y : Bool). x && y) a b e

pub length-either : (a b : List Bool) → length a ≡ length b → length (either a b) ≡ length a
length-either a b e = length-zip2 (λ (x y : Bool). x || y) a b e

pub length-difference : (a b : List Bool) → length a ≡ length b → length (difference a b) ≡ length a
length-difference a b e = length-zip2 (λ (x y : Bool). x && not y) a b e

-- two tests that agree on all values
pub map_alike : (P : Value → Type 0) (f g : Value → Bool) → ((v : Value) → P v → f v ≡ g v) → (vs : List Value) → All P vs → map f vs ≡ map g vs
map_alike P f g e vs all = ext_get_or false (map f vs) (map g vs) (length-map vs f ∙ sym (length-map vs g))
    (λ i less. let within : i < length vs = omega (arith, length-map vs f, less) in
    get_or-map f vs i values.Null false within ∙ e (value_at i vs) (All-get_or P vs i values.Null within all) ∙ sym (get_or-map g vs i values.Null false within))

-- COUNTS

-- one plane more
pub rows_more : (d n k : ℕ) → d < n → d * k + k ≤ n * k
rows_more d n k h = let up : suc d * k ≤ n * k = mul-le-mul_right k (omega (arith, h)) in omega (arith, suc-mul d k, up)

-- the keys' plane is that of the values
pub plane_by_keys : (bits j : ℕ) (vs : List Value) → map (plane_bit j) (map (key_of bits) vs) ≡ plane_of bits vs j
plane_by_keys bits j [] = refl
plane_by_keys bits j (v ∷ vs) = ap (λ (xs : List Bool). slice_bit bits j v ∷ xs) (plane_by_keys bits j vs)
