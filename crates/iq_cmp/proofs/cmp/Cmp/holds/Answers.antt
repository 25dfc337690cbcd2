use Rattle.std.proofs.Common.{◌∙◌}
use Rattle.std.proofs.lemmas.Result.{IfOk-weaker}
use Rattle.iq_ast.specs.declared.conditions.Op.TheVariants.{Eq, Ne, Lt, Le, Gt, Ge}
use Rattle.iq_cmp.specs.Relations.{planes_of}
use Rattle.iq_cmp.proofs.Pairs.{less_or_equal, less_or_greater, equal_or_greater, pairs_either}
use Rattle.iq_cmp.proofs.cmp.Cmp.holds.Goals as goal

pub returns-in-Lt-clause-rows : goal.returns-in-Lt-clause-rows
returns-in-Lt-clause-rows g c = IfOk-weaker c.read_plane.result _ _ (λ bits gives vs ws h. rw c.in-Lt.is (gives (planes_of vs ws) h.held)) c.read_plane.ensures.bits

pub returns-in-Eq-clause-rows : goal.returns-in-Eq-clause-rows
returns-in-Eq-clause-rows g c = IfOk-weaker c.read_plane-in-Eq.result _ _ (λ bits gives vs ws h. rw c.in-Eq.is (gives (planes_of vs ws) h.held)) c.read_plane-in-Eq.ensures.bits

pub returns-in-Gt-clause-rows : goal.returns-in-Gt-clause-rows
returns-in-Gt-clause-rows g c = IfOk-weaker c.read_plane-in-Gt.result _ _ (λ bits gives vs ws h. rw c.in-Gt.is (gives (planes_of vs ws) h.held)) c.read_plane-in-Gt.ensures.bits

pub returns-in-Le-clause-rows : goal.returns-in-Le-clause-rows
returns-in-Le-clause-rows g c = IfOk-weaker c.in_either.result _ _ (λ bits found vs ws h. rw c.in-Le.is (found vs ws h ∙ pairs_either Le Lt Eq less_or_equal vs ws)) c.in_either.ensures.rows

pub returns-in-Ne-clause-rows : goal.returns-in-Ne-clause-rows
returns-in-Ne-clause-rows g c = IfOk-weaker c.in_either-in-Ne.result _ _ (λ bits found vs ws h. rw c.in-Ne.is (found vs ws h ∙ pairs_either Ne Lt Gt less_or_greater vs ws)) c.in_either-in-Ne.ensures.rows

pub returns-in-Ge-clause-rows : goal.returns-in-Ge-clause-rows
returns-in-Ge-clause-rows g c = IfOk-weaker c.in_either-in-Ge.result _ _ (λ bits found vs ws h. rw c.in-Ge.is (found vs ws h ∙ pairs_either Ge Eq Gt equal_or_greater vs ws)) c.in_either-in-Ge.ensures.rows
