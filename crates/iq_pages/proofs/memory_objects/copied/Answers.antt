use Rattle.std.proofs.Common.{◌≡◌, ◌+◌, ◌++◌, ◌∷◌, [], ℕ, drop, sym, ap, ◌∙◌, append_assoc}
use Rattle.std.proofs.lemmas.List.{drop_more}
use Rattle.iq_pages.specs.declared.memory_objects.Object.{Object}
use Rattle.iq_pages.specs.MemoryPages.{pages_in}
use Rattle.iq_pages.proofs.PagesInMemory.{pages_traded}
use Rattle.iq_pages.proofs.memory_objects.copied.Goals as goal

pub loop-object-preserved : goal.loop-object-preserved
loop-object-preserved c = λ number.
    let copy = c.in_ok-copied_object.field-0 in
    let object = c.object-item.result in
    let rest = drop (c.loop-object.object-index + 1) c.args.objects.now in
    let here : drop c.loop-object.object-index c.args.objects.now ≡ object ∷ rest =
    drop_more c.args.objects.now c.loop-object.object-index object c.loop-object-test.true ∙ ap (λ (o : Object). o ∷ rest) (sym c.object-item.is) in
    ap (λ (os : _). pages_in (os ++ rest) number) c.in_ok-push.ensures.items
    ∙ ap (λ (os : _). pages_in os number) (append_assoc c.loop-object.copy.items (copy ∷ []) rest)
    ∙ pages_traded c.loop-object.copy.items rest copy object number c.in_ok-copied_object.ensures.number c.in_ok-copied_object.ensures.pages
    ∙ ap (λ (os : _). pages_in (c.loop-object.copy.items ++ os) number) (sym here)
    ∙ c.loop-object.invariant number
