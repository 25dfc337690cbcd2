-- What the calls of a device with a record of its changes did.
use Rattle.std.specs.Prelude.{◌≡◌, ℕ, ◌<◌, ◌≤◌, List, length, take, slice_set, Option, Some, None, Result, Ok, Err, OnOk, OnErr, is_err}
use Rattle.std.proofs.Common.{ap, ◌∙◌, inl, inr, arith}
use Rattle.std.proofs.lemmas.List.{take_all}
use Rattle.iq_outside.specs.Faults.{CountsFaults, HasRisen}
use Rattle.iq_outside.specs.Calls.{Plan, after_fault}
use Rattle.iq_outside.specs.Devices.{block_of, resized, Writes, Resizes, Syncs}
use Rattle.iq_outside.specs.Changes.{Recording, recording_seen, Adds}
use Rattle.iq_outside.specs.declared.recorded.Change.TheVariants.{Wrote, Resized, Synced}
use Rattle.iq_outside.proofs.ImageLemmas.{SameBut-refl, adds_keeps, adds_raises, unmoved_keeps, unmoved_same, unmoved_but, unmoved_whole, write_but, write_whole, sync_same, sync_whole, sync_settles}

-- a call that counted, and then a fault where the record failed
pub counts_call : {T E : Type 0} (result : Result T E) (before : ℕ) (between now : Plan) → before ≤ between.faults
    → between.faults ≤ now.faults → OnErr result (now ≡ after_fault between) → CountsFaults result before now.faults
counts_call (Ok x) before between now first next fault = record { later = omega (arith, first, next); failed = tt }
counts_call (Err e) before between now first next fault = record {
  later = omega (arith, first, next);
  failed = omega (arith, first, ap (λ (p : Plan). p.faults) fault);
}

-- the same of counts alone
pub counts_both : {T E : Type 0} (result : Result T E) (before between now : ℕ) → before ≤ between → between ≤ now
    → OnErr result (HasRisen between now) → CountsFaults result before now
counts_both (Ok x) before between now first next risen = record { later = omega (arith, first, next); failed = tt }
counts_both (Err e) before between now first next risen = record {
  later = omega (arith, first, next);
  failed = omega (arith, first, risen);
}

-- the blocks that were told
told_blocks : (a b : List (List ℕ)) → Some a ≡ Some b → a ≡ b
told_blocks a b told = cc

some_never_none : (a : List (List ℕ)) (told : Option (List (List ℕ))) → Some a ≡ None → told ≡ None
some_never_none a told never = cc

pub has_written : {T E U F : Type 0} (f g : ℕ) (at : ℕ) (block : List ℕ) (inner : Result U F)
    (result : Result T E) (old new : Recording) → is_err result ≡ is_err inner
    → OnOk inner (new.blocks ≡ slice_set old.blocks at block)
    → OnOk inner (Adds (Wrote at (block_of old.blocks at)) old new)
    → OnErr inner (new ≡ old) → at < length old.blocks → CountsFaults result f g
    → Writes at block result (recording_seen f old) (recording_seen g new)
has_written f g at block (Ok u) (Ok t) old new variant set adds same within counts = record {
  content = record {
    ok = λ blocks told. ap Some (set ∙ ap (λ (bs : List (List ℕ)). slice_set bs at block) (told_blocks _ _ told));
    err = λ blocks told. tt;
    untold = some_never_none _ _;
  };
  counts = counts;
  past = adds_keeps f g (Wrote at (block_of old.blocks at)) old new adds;
  since = write_but f g at block old new adds set within;
  whole = write_whole f g at block old new adds set within;
  raises = λ telling. record { ok = adds_raises (Wrote at (block_of old.blocks at)) old new adds; err = tt };
}
has_written f g at block (Ok u) (Err e) old new variant set adds same within counts = cc
has_written f g at block (Err w) (Ok t) old new variant set adds same within counts = cc
has_written f g at block (Err w) (Err e) old new variant set adds same within counts = record {
  content = record {
    ok = λ blocks told. tt;
    err = λ blocks told. (blocks, ap (λ (r : Recording). Some r.blocks) same ∙ told, SameBut-refl at blocks);
    untold = some_never_none _ _;
  };
  counts = counts;
  past = unmoved_keeps f g old new same;
  since = unmoved_but f g at old new same;
  whole = λ t i x since until whole. inl (unmoved_whole f g old new same t i x since until whole);
  raises = λ telling. record { ok = tt; err = inr (ap (λ (r : Recording). Some r.blocks) same) };
}

pub has_synced : {T E U F : Type 0} (f g : ℕ) (inner : Result U F)
    (result : Result T E) (old new : Recording) → is_err result ≡ is_err inner
    → OnOk inner (Adds Synced old new) → OnErr inner (new ≡ old) → CountsFaults result f g
    → Syncs result (recording_seen f old) (recording_seen g new)
has_synced f g (Ok u) (Ok t) old new variant adds same counts = record {
  content = ap Some adds.undone;
  counts = counts;
  past = adds_keeps f g Synced old new adds;
  since = sync_same f g old new adds;
  whole = sync_whole f g old new adds;
  settled = sync_settles g old new adds;
  raises = λ telling. record { ok = adds_raises Synced old new adds; err = tt };
}
has_synced f g (Ok u) (Err e) old new variant adds same counts = cc
has_synced f g (Err w) (Ok t) old new variant adds same counts = cc
has_synced f g (Err w) (Err e) old new variant adds same counts = record {
  content = ap (λ (r : Recording). Some r.blocks) same;
  counts = counts;
  past = unmoved_keeps f g old new same;
  since = unmoved_same f g old new same;
  whole = unmoved_whole f g old new same;
  settled = tt;
  raises = λ telling. record { ok = tt; err = inr (ap (λ (r : Recording). Some r.blocks) same) };
}

pub has_resized : {T E U F : Type 0} (f g : ℕ) (n : ℕ) (inner : Result U F)
    (result : Result T E) (old new : Recording) → is_err result ≡ is_err inner
    → OnOk inner (new.blocks ≡ resized n old.blocks)
    → OnOk inner ((dropped : List (List ℕ)) × Adds (Resized (length old.blocks) dropped) old new)
    → OnErr inner (new ≡ old) → CountsFaults result f g
    → Resizes n result (recording_seen f old) (recording_seen g new)
has_resized f g n (Ok u) (Ok t) old new variant cut adds same counts = record {
  content = record {
    ok = λ blocks told. ap Some (cut ∙ ap (resized n) (told_blocks _ _ told));
    err = λ blocks told. tt;
    untold = some_never_none _ _;
  };
  counts = counts;
  past = adds_keeps f g (Resized (length old.blocks) adds.0) old new adds.1;
  raises = λ telling. record { ok = adds_raises (Resized (length old.blocks) adds.0) old new adds.1; err = tt };
}
has_resized f g n (Ok u) (Err e) old new variant cut adds same counts = cc
has_resized f g n (Err w) (Ok t) old new variant cut adds same counts = cc
has_resized f g n (Err w) (Err e) old new variant cut adds same counts = record {
  content = record {
    ok = λ blocks told. tt;
    err = λ blocks told. (blocks, ap (λ (r : Recording). Some r.blocks) same ∙ told, ap (take n) (take_all (length blocks) blocks (omega arith)));
    untold = some_never_none _ _;
  };
  counts = counts;
  past = unmoved_keeps f g old new same;
  raises = λ telling. record { ok = tt; err = inr (ap (λ (r : Recording). Some r.blocks) same) };
}
