-- The first latch in the way, from the least actor on, as the table tells it.
use Rattle.std.proofs.Common.{◌≡◌, ◌≢◌, ℕ, zero, suc, ◌<◌, ◌≤◌, ◌==◌, Bool, true, false, cond, not, ◌&&◌, List, [], ◌∷◌, length, get_or, find, All, Option, Some, None, IsTrue, IfSome, refl, sym, ap, subst, ◌∙◌, arith}
use Rattle.std.specs.Option.{IsSomeAnd, option_map}
use Rattle.std.specs.Cmp.{ranked}
use Rattle.std.specs.Ordering.{nat_cmp, ordering_then}
use Rattle.std.specs.declared.cmp.Ordering.TheVariants.{Less, Equal, Greater}
use Rattle.std.proofs.lemmas.Bool.Decides.{Decides-eqb}
use Rattle.std.proofs.lemmas.Bool.{and_parts, false≢true, cases_lt, not-true, false_from_ne_true}
use Rattle.std.proofs.Common.{inl, inr}
use Rattle.hb_latch.specs.declared.modes.Mode.{Mode}
use Rattle.hb_latch.specs.declared.entries.Held.{Held}
use Rattle.hb_latch.specs.Modes.{goes_beside}
use Rattle.hb_latch.specs.Tables.{latch_cmp, mode_at, IsGrantable, KeepsFrom, IsLeastInTheWay}
use Rattle.hb_latch.specs.Entries.{key_of, conflicts}
use Rattle.hb_latch.proofs.TableViews.{table_of, mode_of, KeysRise}
use Rattle.hb_lemmas.proofs.SortedEntries.{get_at, get_is, place_found, rise_at}
use Rattle.hb_latch.proofs.Facts.KeyOrder.{latch_order, exact_keys}

-- the first that passes: it passes, and none before it does
pub record IsFirstAt (p : Held → Bool) (hs : List Held) (h : Held) : Type 0 where
  pub place : ℕ
  pub in_range : place < length hs
  pub is : (d : Held) → get_or hs place d ≡ h
  pub passes : p h ≡ true
  pub before : (k : ℕ) (d : Held) → k < place → p (get_or hs k d) ≡ false

pub first_is : (p : Held → Bool) (hs : List Held) (h : Held) → find p hs ≡ Some h → IsFirstAt p hs h
first_is p [] h found = cc
first_is p (x ∷ hs) h found =
    elim (p x) as (λ b. p x ≡ b → cond b (Some x) (find p hs) ≡ Some h → IsFirstAt p (x ∷ hs) h) [
      | true ↦ λ is same. let one : x ≡ h = cc in record { place = 0; in_range = omega arith; is = λ d. one; passes = subst (λ (y : Held). p y ≡ true) one is; before = λ k d lt. absurd (omega arith) }
      | false ↦ λ is same. later is (first_is p hs h same)
    ] refl found
  where
    later : p x ≡ false → IsFirstAt p hs h → IsFirstAt p (x ∷ hs) h
    later fails f = record { place = suc f.place; in_range = omega (arith, f.in_range); is = f.is; passes = f.passes; before = earlier }
      where
        earlier : (k : ℕ) (d : Held) → k < suc f.place → p (get_or (x ∷ hs) k d) ≡ false
        earlier zero d lt = fails
        earlier (suc k) d lt = f.before k d (omega arith)

pub none_passes : (p : Held → Bool) (hs : List Held) → find p hs ≡ None → All (λ h. p h ≡ false) hs
none_passes p [] none = λ k d lt. absurd (omega arith)
none_passes p (x ∷ hs) none =
    elim (p x) as (λ b. p x ≡ b → cond b (Some x) (find p hs) ≡ None → All (λ h. p h ≡ false) (x ∷ hs)) [
      | true ↦ λ is same. cc
      | false ↦ λ is same. each is (none_passes p hs same)
    ] refl none
  where
    each : p x ≡ false → All (λ h. p h ≡ false) hs → All (λ h. p h ≡ false) (x ∷ hs)
    each fails rest zero d lt = fails
    each fails rest (suc k) d lt = rest k d (omega arith)

-- a latch that conflicts is another's, on the page, and doesn't go beside the mode
pub record IsAgainst (actor page : ℕ) (mode : Mode) (h : Held) : Type 0 where
  pub page_is : h.page ≡ page
  pub another : h.actor ≢ actor
  pub apart : goes_beside mode h.mode ≡ false

against_so : (actor page : ℕ) (mode : Mode) (h : Held) → conflicts actor page mode h ≡ true → IsAgainst actor page mode h
against_so actor page mode h is =
    let parts = and_parts (h.page == page) _ is in
    let more = and_parts (not (h.actor == actor)) _ parts.1 in
    record {
      page_is = (Decides-eqb h.page page).0 parts.0;
      another = λ same. false≢true (sym (ap not ((Decides-eqb h.actor actor).1 same)) ∙ more.0);
      apart = not-true (goes_beside mode h.mode) more.1;
    }

conflicts_so : (actor page : ℕ) (mode : Mode) (h : Held) → IsAgainst actor page mode h → conflicts actor page mode h ≡ true
conflicts_so actor page mode h a =
    ap (λ b. b && (not (h.actor == actor) && not (goes_beside mode h.mode))) ((Decides-eqb h.page page).1 a.page_is)
    ∙ ap (λ b. not b && not (goes_beside mode h.mode)) (false_from_ne_true (h.actor == actor) (λ same. a.another ((Decides-eqb h.actor actor).0 same)))
    ∙ ap not a.apart

-- the actors don't fall along the latches
first_rises : (k l : ℕ × ℕ) → latch_cmp k l ≡ Less → k.0 ≤ l.0
first_rises k l less =
    elim (nat_cmp k.0 l.0) as (λ o. o ≡ nat_cmp k.0 l.0 → ordering_then o (nat_cmp k.1 l.1) ≡ Less → k.0 ≤ l.0) [
      | Less ↦ λ is e. let below : k.0 < l.0 = ranked k.0 l.0 Less is in omega arith
      | Equal ↦ λ is e. let same : k.0 ≡ l.0 = ranked k.0 l.0 Equal is in omega arith
      | Greater ↦ λ is e. cc
    ] refl less

actors_rise : (hs : List Held) (i j : ℕ) (d : Held) → KeysRise hs → i ≤ j → j < length hs → (get_or hs i d).actor ≤ (get_or hs j d).actor
actors_rise hs i j d rise le in_range = elim (cases_lt i j) [
  | inl lt ↦ first_rises (key_of (get_or hs i d)) (key_of (get_or hs j d)) (rise_at latch_order key_of mode_of hs rise i j d lt in_range)
  | inr ge ↦ let same : i ≡ j = omega arith in omega (arith, ap (λ (k : ℕ). (get_or hs k d).actor) same)
]

-- a latch at a place, as the table tells it
get_place : (hs : List Held) (page : ℕ) (h : Held) (i : ℕ) → KeysRise hs → i < length hs → ((d : Held) → get_or hs i d ≡ h) → h.page ≡ page → mode_at (table_of hs) h.actor page ≡ Some h.mode
get_place hs page h i rise in_range is page_is =
    get_at latch_order key_of mode_of hs (h.actor, page) i h rise (record { in_range = in_range; same_key = λ d. ap key_of (is d) ∙ ap (λ (p : ℕ). (h.actor, p)) page_is })
    ∙ ap (λ (x : Held). Some x.mode) (is h)

-- who keeps the actor from the page has a latch in the list that conflicts
against_at : (hs : List Held) (actor page : ℕ) (mode : Mode) (other : ℕ) (d : Held) → KeysRise hs → KeepsFrom (mode_at (table_of hs)) actor page mode other → (i : ℕ) × (i < length hs) × (key_of (get_or hs i d) ≡ (other, page)) × (conflicts actor page mode (get_or hs i d) ≡ true)
against_at hs actor page mode other d rise keeps =
    elim (mode_at (table_of hs) other page) as (λ o. mode_at (table_of hs) other page ≡ o → IsSomeAnd o (λ held. ¬ (IsTrue (goes_beside mode held))) → (i : ℕ) × (i < length hs) × (key_of (get_or hs i d) ≡ (other, page)) × (conflicts actor page mode (get_or hs i d) ≡ true)) [
      | None ↦ λ is no. absurd no
      | Some held ↦ λ is apart.
          let at = place_found latch_order key_of mode_of exact_keys hs (other, page) held d (sym (get_is latch_order key_of mode_of hs (other, page) rise) ∙ is) in (
            at.0,
            at.1,
            at.2,
            conflicts_so actor page mode (get_or hs at.0 d) (record {
              page_is = ap (λ (k : ℕ × ℕ). k.1) at.2;
              another = λ same. keeps.another (sym (ap (λ (k : ℕ × ℕ). k.0) at.2) ∙ same);
              apart = ap (goes_beside mode) at.3 ∙ false_from_ne_true _ apart;
            }),
          )
    ] refl keeps.conflict

-- the first latch that conflicts is of the least actor that is in the way
least_is : (hs : List Held) (actor page : ℕ) (mode : Mode) (h : Held) → KeysRise hs → find (conflicts actor page mode) hs ≡ Some h → IsLeastInTheWay (mode_at (table_of hs)) actor page mode h.actor
least_is hs actor page mode h rise found =
    let first = first_is (conflicts actor page mode) hs h found in
    let against = against_so actor page mode h first.passes in
    let held = get_place hs page h first.place rise first.in_range first.is against.page_is in
    record {
      keeps = record { another = against.another; conflict = subst (λ (o : Option Mode). IsSomeAnd o (λ held. ¬ (IsTrue (goes_beside mode held)))) (sym held) (λ beside. false≢true (sym against.apart ∙ beside)) };
      least = λ earlier lt keeps.
          let at = against_at hs actor page mode earlier h rise keeps in
          let actor_is : (get_or hs at.0 h).actor ≡ earlier = ap (λ (k : ℕ × ℕ). k.0) at.2 in
          let same : (get_or hs first.place h).actor ≡ h.actor = ap (λ (x : Held). x.actor) (first.is h) in
          elim (cases_lt at.0 first.place) [
            | inl before ↦ false≢true (sym (first.before at.0 h before) ∙ at.3)
            | inr behind ↦ let rises = actors_rise hs first.place at.0 h rise behind at.1 in absurd (omega arith)
          ];
    }

-- then the actor may not have the page
refused : (hs : List Held) (actor page : ℕ) (mode : Mode) (h : Held) → KeysRise hs → find (conflicts actor page mode) hs ≡ Some h → ¬ (IsGrantable (mode_at (table_of hs)) actor page mode)
refused hs actor page mode h rise found grantable =
    let first = first_is (conflicts actor page mode) hs h found in
    let against = against_so actor page mode h first.passes in
    let held = get_place hs page h first.place rise first.in_range first.is against.page_is in
    let beside = subst (λ (o : Option Mode). IfSome o (λ held. IsTrue (goes_beside mode held))) held (grantable h.actor against.another) in
    false≢true (sym against.apart ∙ beside)

-- and where none conflicts, it may
grantable : (hs : List Held) (actor page : ℕ) (mode : Mode) → KeysRise hs → find (conflicts actor page mode) hs ≡ None → IsGrantable (mode_at (table_of hs)) actor page mode
grantable hs actor page mode rise none other apart =
    elim (mode_at (table_of hs) other page) as (λ o. mode_at (table_of hs) other page ≡ o → IfSome o (λ held. IsTrue (goes_beside mode held))) [
      | None ↦ λ is. tt
      | Some held ↦ λ is.
          elim (goes_beside mode held) as (λ b. goes_beside mode held ≡ b → b ≡ true) [
            | true ↦ λ beside. refl
            | false ↦ λ beside.
                let x : Held = record { actor = other; page = page; mode = held } in
                let keeps : KeepsFrom (mode_at (table_of hs)) actor page mode other = record { another = apart; conflict = subst (λ (o : Option Mode). IsSomeAnd o (λ held. ¬ (IsTrue (goes_beside mode held)))) (sym is) (λ t. false≢true (sym beside ∙ t)) } in
                let at = against_at hs actor page mode other x rise keeps in
                sym (none_passes (conflicts actor page mode) hs none at.0 x at.1) ∙ at.3
          ] refl
    ] refl

-- who is named, if anyone
abbrev pub named : ℕ → ℕ → Mode → List Held → Option ℕ
named actor page mode hs = option_map (λ (h : Held). h.actor) (find (conflicts actor page mode) hs)

-- is the least one in the way, and then the page can't be had
pub named_least : (hs : List Held) (actor page : ℕ) (mode : Mode) (other : ℕ) → KeysRise hs → Some other ≡ named actor page mode hs → IsLeastInTheWay (mode_at (table_of hs)) actor page mode other
named_least hs actor page mode other rise is =
    elim (find (conflicts actor page mode) hs) as (λ o. find (conflicts actor page mode) hs ≡ o → Some other ≡ option_map (λ (h : Held). h.actor) o → IsLeastInTheWay (mode_at (table_of hs)) actor page mode other) [
      | None ↦ λ found is. cc
      | Some h ↦ λ found is. let same : h.actor ≡ other = cc in subst (IsLeastInTheWay (mode_at (table_of hs)) actor page mode) same (least_is hs actor page mode h rise found)
    ] refl is

pub named_refused : (hs : List Held) (actor page : ℕ) (mode : Mode) (other : ℕ) → KeysRise hs → Some other ≡ named actor page mode hs → ¬ (IsGrantable (mode_at (table_of hs)) actor page mode)
named_refused hs actor page mode other rise is =
    elim (find (conflicts actor page mode) hs) as (λ o. find (conflicts actor page mode) hs ≡ o → Some other ≡ option_map (λ (h : Held). h.actor) o → ¬ (IsGrantable (mode_at (table_of hs)) actor page mode)) [
      | None ↦ λ found is. cc
      | Some h ↦ λ found is. refused hs actor page mode h rise found
    ] refl is

-- where nobody is, it can
pub none_named : (hs : List Held) (actor page : ℕ) (mode : Mode) → KeysRise hs → None ≡ named actor page mode hs → IsGrantable (mode_at (table_of hs)) actor page mode
none_named hs actor page mode rise is =
    elim (find (conflicts actor page mode) hs) as (λ o. find (conflicts actor page mode) hs ≡ o → None ≡ option_map (λ (h : Held). h.actor) o → IsGrantable (mode_at (table_of hs)) actor page mode) [
      | None ↦ λ found is. grantable hs actor page mode rise found
      | Some h ↦ λ found is. cc
    ] refl is

-- and where it can, nobody is
pub named_nobody : (hs : List Held) (actor page : ℕ) (mode : Mode) → KeysRise hs → IsGrantable (mode_at (table_of hs)) actor page mode → named actor page mode hs ≡ None
named_nobody hs actor page mode rise grantable =
    elim (find (conflicts actor page mode) hs) as (λ o. find (conflicts actor page mode) hs ≡ o → option_map (λ (h : Held). h.actor) o ≡ None) [
      | None ↦ λ found. refl
      | Some h ↦ λ found. absurd (refused hs actor page mode h rise found grantable)
    ] refl
