-- What bytes spell at most.
use Rattle.std.proofs.Common.{◌≡◌, ℕ, List, [], ◌∷◌, ◌++◌, sym, subst, ◌∙◌}
use Rattle.hb_wal.specs.Frames.{ReadsOneWay}
use Rattle.hb_layout.specs.declared.meta.Meta.{Meta}
use Rattle.hb_log_codec.specs.Groups.{FitsGroup, Logged, SpellsGroups, group_bytes}
use Rattle.hb_store.specs.Opening.{HasGroups, SpellAll, log_bytes}

-- bytes spell at most one list of groups; no group's spelling begins another's
abbrev pub OneList : Type 0
OneList = (k : ℕ) (bytes : List ℕ) (xs ys : List Logged) → SpellsGroups k bytes xs → SpellsGroups k bytes ys → xs ≡ ys

abbrev pub OneGroup : Type 0
OneGroup = (k : ℕ) (x y : Logged) (r s : List ℕ) → FitsGroup k x → FitsGroup k y → group_bytes x ++ r ≡ group_bytes y ++ s → (x ≡ y) × (r ≡ s)

-- so payloads spell one list of groups at most
same_spelled : OneList → (k : ℕ) (payloads : List (List ℕ)) (xs ys : List Logged) → SpellAll k payloads xs → SpellAll k payloads ys → xs ≡ ys
same_spelled one k [] xs ys x_spell y_spell = x_spell ∙ sym y_spell
same_spelled one k (payload ∷ rest) xs ys x_spell y_spell =
    let front = one k payload x_spell.0 y_spell.0 x_spell.3 y_spell.3 in
    let behind = same_spelled one k rest x_spell.1 y_spell.1 x_spell.4 y_spell.4 in
    x_spell.2 ∙ (λ i. front i ++ behind i) ∙ sym y_spell.2

-- and the log of a turn has one list of payloads at most, and one of groups
pub one_log : OneList → ReadsOneWay → (bytes : List ℕ) (turn : ℕ) (said : Meta) (p q : List (List ℕ)) (xs ys : List Logged) → HasGroups bytes turn said p xs → HasGroups bytes turn said q ys → (p ≡ q) × (xs ≡ ys)
one_log one way bytes turn said p q xs ys here there =
    let payloads : p ≡ q = (way (log_bytes turn said bytes)).frames p q here.framed there.framed in
    (payloads, same_spelled one said.k q xs ys (subst (λ l. SpellAll said.k l xs) payloads here.spelled) there.spelled)
