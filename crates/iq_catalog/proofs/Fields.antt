-- Numbers, bytes and references read as they were written, behind any bytes.
use Rattle.std.specs.Prelude.{◌≡◌, ℕ, ◌+◌, ◌^◌, ◌<◌, Bool, true, false, ◌&&◌, List, ◌++◌, length, drop, slice_index, nat_eq, nat_le, nat_lt, if◌then◌else◌}
use Rattle.std.proofs.Common.{refl, sym, ap, ◌∙◌, arith, append_assoc, length-append}
use Rattle.std.proofs.Math.Seq.{drop-append_seam}
use Rattle.std.proofs.lemmas.Bool.{and_parts, leb-true}
use Rattle.std.proofs.lemmas.List.{get_or-append-add}
use Rattle.iq_base.specs.declared.values.Kind.{Kind}
use Rattle.iq_base.specs.declared.values.Kind.TheVariants.{Int, Big, Varchar}
use Rattle.iq_base.specs.declared.schemas.IndexKind.{IndexKind}
use Rattle.iq_base.specs.declared.schemas.IndexKind.TheVariants.{Lf, Hg, Hng, Cmp}
use Rattle.iq_base.specs.declared.refs.Ref.{Ref}
use Rattle.iq_base.specs.Limits.{text_length}
use Rattle.iq_block_store.specs.Frames.{number_at, bytes_of}
use Rattle.iq_block_store.proofs.FrameLemmas.{length-bytes_of, number_at-bytes_of, number_at-append}
use Rattle.iq_catalog.specs.Texts.{ref_text, kind_code, null_code, index_code}
use Rattle.iq_catalog.specs.Storable.{is_ref, most_number}
use Rattle.iq_catalog.specs.Reading.{ref_of, kind_of, index_kind_of}

-- a byte behind some bytes
pub byte_behind : (front rest : List ℕ) (n i : ℕ) → length front ≡ n → slice_index (front ++ rest) (n + i) ≡ slice_index rest i
byte_behind front rest n i size = rw (← size) (get_or-append-add front rest i 0)

-- what is left behind some bytes
pub rest_behind : (front rest : List ℕ) (n : ℕ) → length front ≡ n → drop n (front ++ rest) ≡ rest
rest_behind front rest n size = rw (← size) (drop-append_seam front rest)

-- a number behind some bytes
pub number_behind : (front rest : List ℕ) (n x : ℕ) → length front ≡ n → x < 2 ^ 32 → number_at (front ++ (bytes_of x ++ rest)) n ≡ x
number_behind front rest n x size fits =
    ap (number_at (front ++ (bytes_of x ++ rest))) (omega arith) ∙ number_at-append front (bytes_of x ++ rest) n 0 size ∙ number_at-bytes_of x rest fits

pub length-ref_text : (object : Ref) → length (ref_text object) ≡ 8
unfolding ref_text
length-ref_text object = omega (arith, length-append (bytes_of object.root) (bytes_of object.pages), length-bytes_of object.root, length-bytes_of object.pages)

-- a reference behind some bytes
pub ref_behind : (front rest : List ℕ) (n : ℕ) (object : Ref) → length front ≡ n → is_ref object ≡ true → ref_of (front ++ (ref_text object ++ rest)) n ≡ object
unfolding ref_of ref_text
ref_behind front rest n object size h =
    let last = and_parts (nat_le object.pages 63504 && nat_le object.root most_number) (if nat_eq object.pages 0 then nat_eq object.root 0 else nat_lt 0 object.root) h in
    let both = and_parts (nat_le object.pages 63504) (nat_le object.root most_number) last.0 in
    let pages_fit : object.pages < 2 ^ 32 = omega (arith, leb-true _ _ both.0) in
    let root_fits : object.root < 2 ^ 32 = omega (arith, leb-true _ _ both.1) in
    let split : front ++ ((bytes_of object.root ++ bytes_of object.pages) ++ rest) ≡ front ++ (bytes_of object.root ++ (bytes_of object.pages ++ rest))
    = ap (λ (t : List ℕ). front ++ t) (append_assoc (bytes_of object.root) (bytes_of object.pages) rest) in
    let moved : front ++ (bytes_of object.root ++ (bytes_of object.pages ++ rest)) ≡ (front ++ bytes_of object.root) ++ (bytes_of object.pages ++ rest)
    = sym (append_assoc front (bytes_of object.root) (bytes_of object.pages ++ rest)) in
    let longer : length (front ++ bytes_of object.root) ≡ n + 4 = omega (arith, size, length-append front (bytes_of object.root), length-bytes_of object.root) in
    let root : number_at (front ++ ((bytes_of object.root ++ bytes_of object.pages) ++ rest)) n ≡ object.root
    = ap (λ (t : List ℕ). number_at t n) split ∙ number_behind front (bytes_of object.pages ++ rest) n object.root size root_fits in
    let pages : number_at (front ++ ((bytes_of object.root ++ bytes_of object.pages) ++ rest)) (n + 4) ≡ object.pages
    = ap (λ (t : List ℕ). number_at t (n + 4)) (split ∙ moved) ∙ number_behind (front ++ bytes_of object.root) rest (n + 4) object.pages longer pages_fit in
    rw (root, pages) refl

pub kind_back : (kind : Kind) → kind_of (kind_code kind) (text_length kind) ≡ kind
kind_back Int = refl
kind_back Big = refl
kind_back (Varchar n) = refl

pub null_back : (null : Bool) → nat_eq (null_code null) 1 ≡ null
null_back false = refl
null_back true = refl

pub index_kind_back : (kind : IndexKind) → index_kind_of (index_code kind) ≡ kind
index_kind_back Lf = refl
index_kind_back Hg = refl
index_kind_back Hng = refl
index_kind_back Cmp = refl
