use Rattle.hb_view.specs.Views.{IsLiveAnd}
use Rattle.hb_consol.proofs.ViewedParents.{HaveFirst}
use Rattle.hb_consol.proofs.children.first_child_by_view.Given as goal

-- no leaf so far is a child leaf
abbrev pub invariant-loop-place : goal.invariant-loop-place
invariant-loop-place l = IsLiveAnd l.view (HaveFirst l.place)
