-- Replaying groups one after the other.
use Rattle.std.proofs.Common.{◌≡◌, ℕ, ◌+◌, ◌<◌, List, [], ◌∷◌, ◌++◌, length, get_or, map, take, drop, All, refl, sym, ap, subst, ◌∙◌}
use Rattle.std.proofs.lemmas.List.{append-nil, drop_more, map-append, take-append-drop, map-id}
use Rattle.std.proofs.lemmas.List.Elements.{All-head}
use Rattle.hb_lemmas.proofs.Lists.{All-behind}
use Rattle.hb_layout.specs.declared.meta.Meta.{Meta}
use Rattle.hb_log_codec.specs.declared.groups.Group.{Group}
use Rattle.hb_log_codec.specs.Groups.{Logged, FitsGroup, SpellsGroups}
use Rattle.hb_log_codec.specs.Reading.{logged}
use Rattle.hb_store.proofs.Facts.Spellings.{OneList}
use Rattle.hb_store.specs.Replay.{Replayed, MayFollow, MayReplay, after_group, replay, untouched}
use Rattle.hb_store.specs.Opening.{IsBadPayload}
use Rattle.hb_store.specs.Replaying.{Follows, HasReplayed}
use Rattle.hb_store.proofs.Facts.ReplayLaws.{MayReplay-append, MayReplay-back, SpellAll-append, replay-append}

-- ---- the groups of a payload, one after the other

-- a list is what came so far, the next one and those behind
pub splits : {A : Type 0} (all xs : List A) (x : A) → map (λ y. y) xs ≡ take (length xs) all → (length xs < length all) × (x ≡ get_or all (length xs) x) → all ≡ xs ++ x ∷ drop (length xs + 1) all
splits all xs x front next =
    sym (take-append-drop (length xs) all) ∙ (λ i. (sym front ∙ map-id xs) i ++ (drop_more all (length xs) x next.0 ∙ (λ j. sym next.1 j ∷ drop (length xs + 1) all)) i)

pub next_fits : (k : ℕ) (all xs : List Group) (x : Group) (behind : List Group) → all ≡ xs ++ x ∷ behind → All (FitsGroup k) (map logged all) → FitsGroup k (logged x)
next_fits k all xs x behind split fits =
    let F = FitsGroup k in
    All-head F (logged x) (map logged behind) (All-behind F (map logged xs) (map logged (x ∷ behind)) (subst (λ (l : List Logged). All F l) (ap (map logged) split ∙ map-append logged xs (x ∷ behind)) fits))

-- one more group
pub may_more : (t : Replayed) (xs : List Group) (x : Group) → MayReplay t (map logged xs) → MayFollow (replay t (map logged xs)) (logged x) → MayReplay t (map logged (xs ++ x ∷ []))
may_more t xs x may next = subst (MayReplay t) (sym (map-append logged xs (x ∷ []))) (MayReplay-append t (map logged xs) (logged x ∷ []) may (next, tt))

pub replay_more : (t u v : Replayed) (xs : List Group) (x : Group) → u ≡ replay t (map logged xs) → v ≡ after_group u (logged x) → v ≡ replay t (map logged (xs ++ x ∷ []))
replay_more t u v xs x so_far next =
    next ∙ (λ i. after_group (so_far i) (logged x)) ∙ sym (replay-append t (map logged xs) (logged x ∷ [])) ∙ ap (replay t) (sym (map-append logged xs (x ∷ [])))

-- a group that may not be replayed where those before it led
pub bad_here : OneList → (k : ℕ) (t u : Replayed) (payload : List ℕ) (all xs : List Group) (x : Group) (behind : List Group) → SpellsGroups k payload (map logged all) → all ≡ xs ++ x ∷ behind
    → u ≡ replay t (map logged xs) → (MayFollow u (logged x) → ⊥) → IsBadPayload k t payload
bad_here one k t u payload all xs x behind spelled split so_far bad groups other may =
    let same : groups ≡ map logged xs ++ map logged (x ∷ behind) = one k payload groups (map logged all) other spelled ∙ ap (map logged) split ∙ map-append logged xs (x ∷ behind) in
    let here = MayReplay-back t (map logged xs) (map logged (x ∷ behind)) (subst (MayReplay t) same may) in
    bad (subst (λ r. MayFollow r (logged x)) (sym so_far) here.0)

-- ---- payloads

pub replayed_none : (said : Meta) → HasReplayed said [] (untouched said)
replayed_none said = record { groups = []; spelled = refl; may = tt; leads = refl }

pub replayed_more : (said : Meta) (payloads : List (List ℕ)) (t u : Replayed) (payload : List ℕ) → HasReplayed said payloads t → Follows said.k t payload u → HasReplayed said (payloads ++ payload ∷ []) u
replayed_more said payloads t u payload so_far next = record {
  groups = so_far.groups ++ next.groups;
  spelled = SpellAll-append said.k payloads (payload ∷ []) so_far.groups next.groups so_far.spelled (next.groups, [], sym (append-nil next.groups), next.spelled, refl);
  may = MayReplay-append (untouched said) so_far.groups next.groups so_far.may (subst (λ r. MayReplay r next.groups) so_far.leads next.may);
  leads = next.leads ∙ ap (λ r. replay r next.groups) so_far.leads ∙ sym (replay-append (untouched said) so_far.groups next.groups);
}
