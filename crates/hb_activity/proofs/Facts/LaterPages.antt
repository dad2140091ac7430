-- Pages that come later.
use Rattle.std.proofs.Common.{◌≢◌, inl, inr, List, [], ◌∷◌, subst, arith}
use Rattle.hb_frag.specs.declared.pages.LivePage.{LivePage}
use Rattle.hb_activity.specs.Waiting.{IsLater, GetLater, last_page}

pub never_itself : (a : LivePage) → ¬ (IsLater a a)
never_itself a (inl lower) = omega arith
never_itself a (inr same) = omega (arith, same.1)

pub onward : (a b c : LivePage) → IsLater a b → IsLater b c → IsLater a c
onward a b c (inl first) (inl second) = inl (omega arith)
onward a b c (inl first) (inr second) = inl (omega (arith, second.0))
onward a b c (inr first) (inl second) = inl (omega (arith, first.0))
onward a b c (inr first) (inr second) = inr (omega (arith, first.0, second.0), omega (arith, first.1, second.1))

-- the last one comes later than the first
last_later : (first next : LivePage) (rest : List LivePage) → GetLater first (next ∷ rest) → IsLater first (last_page first (next ∷ rest))
last_later first next [] later = later.0
last_later first next (third ∷ rest) later = onward first next (last_page next (third ∷ rest)) later.0 (last_later next third rest later.1)

pub never_back : (first next : LivePage) (rest : List LivePage) → GetLater first (next ∷ rest) → last_page first (next ∷ rest) ≢ first
never_back first next rest later same = never_itself first (subst (IsLater first) same (last_later first next rest later))
