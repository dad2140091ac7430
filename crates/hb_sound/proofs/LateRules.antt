-- The rules 7 to 10: what the tests of the facts say of the file.
use Rattle.std.proofs.Common.{◌≡◌, inl, inr, ℕ, List, length, take, option_map, Option, Some, None, MatchOption, refl, sym, ap, ◌∙◌, subst, arith}
use Rattle.std.proofs.lemmas.List.{take_all}
use Rattle.hb_frag.specs.declared.pages.Page.{Page}
use Rattle.hb_layout.specs.declared.meta.Meta.{Meta}
use Rattle.hb_ops.specs.Files.{FileState}
use Rattle.hb_ops.specs.Sound.{AreWellMade, ChildrenMatch, IsCovered, IsSound, SiblingsMatch, times_named}
use Rattle.hb_sound.specs.declared.page_facts.Fact.{Fact}
use Rattle.hb_sound.specs.declared.links.Links.{Links}
use Rattle.hb_sound.specs.declared.names.Times.TheVariants.{Never}
use Rattle.hb_sound.specs.Covers.{AreBelow, IsCoverBreak, SeesRule}
use Rattle.hb_sound.specs.Facts.{AreFactsOf, more}
use Rattle.hb_sound.specs.Links.{AreLinks, IsFirstUpTo, LosesChild, LosesSibling}
use Rattle.hb_sound.specs.Names.{KeepsSix, NamesIn}
use Rattle.hb_sound.specs.Told.{item_at, file_with}
use Rattle.hb_sound.specs.Walks.{IsLeast}
use Rattle.hb_sound.proofs.Bridge.{same_length}
use Rattle.hb_sound.proofs.CoverBridge.{IsNamedBy, are_below, to_covered, to_loose}
use Rattle.hb_sound.proofs.LeafBridge.{children_match, least_child, least_sibling, siblings_match}
use Rattle.hb_sound.proofs.LocalBridge.{breaks_seen, least_breaks}

-- the bad page of a rule, by what was found of it
first_at : (p : ℕ → Type 0) (n : ℕ) (o : Option ℕ) (id : ℕ) → o ≡ Some id → IsFirstUpTo p n o → IsLeast p id
first_at p n o id e is = let Q : Option ℕ → Type 0 = λ x. IsFirstUpTo p n x in subst Q e is

none_at : (p : ℕ → Type 0) (n : ℕ) (o : Option ℕ) → o ≡ None → IsFirstUpTo p n o → IsFirstUpTo p n None
none_at p n o e is = let Q : Option ℕ → Type 0 = λ x. IsFirstUpTo p n x in subst Q e is

module _ (meta : Meta) (facts : List Fact) (links : Links) (list : List Page) (are : AreFactsOf meta facts list)
    (kept : KeepsSix (file_with meta list)) (of_links : AreLinks facts list (length facts) links) where
  abbrev file : FileState
  file = file_with meta list

  named_by : IsNamedBy facts list links.named.items
  named_by id =
      let all : take (length facts) list ≡ list = ap (λ (n : ℕ). take n list) (sym (same_length meta facts list are)) ∙ take_all (length list) list (omega arith) in
      of_links.named id ∙ ap (λ (l : List Page). option_map (λ (fact : Fact). more (times_named id l) Never) (item_at facts id)) all

  pub seventh : (id : ℕ) → links.sibling ≡ Some id → NamesIn file id 7
  seventh id e =
      inr (inr (inr (inl (refl, kept, least_sibling meta facts list are id (first_at (LosesSibling facts list) (length facts) links.sibling id e of_links.sibling)))))

  module _ (no_sibling : links.sibling ≡ None) where
    siblings : SiblingsMatch file
    siblings = siblings_match meta facts list are (none_at (LosesSibling facts list) (length facts) links.sibling no_sibling of_links.sibling)

    pub eighth : (id : ℕ) → links.child ≡ Some id → NamesIn file id 8
    eighth id e =
        inr (inr (inr (inr (inl (
          refl,
          kept,
          siblings,
          least_child meta facts list are kept.2 id (first_at (LosesChild facts list) (length facts) links.child id e of_links.child),
        )))))

    module _ (no_child : links.child ≡ None) where
      children : ChildrenMatch file
      children = children_match meta facts list are kept.2 (none_at (LosesChild facts list) (length facts) links.child no_child of_links.child)

      -- with what was found of rule 9, where the levels are below the height
      module _ (broken : Option ℕ) (cover : AreBelow meta.height facts → IsCoverBreak meta facts links.named.items broken) where
        breaks : IsCoverBreak meta facts links.named.items broken
        breaks = cover (are_below meta facts list are kept)

        pub ninth : (id : ℕ) → broken ≡ Some id → NamesIn file id 9
        ninth id e =
            let B : Option ℕ → Type 0 = λ o. IsCoverBreak meta facts links.named.items o in
            let loose = to_loose meta facts list links.named.items are kept siblings named_by id (subst B e breaks) in
            inr (inr (inr (inr (inr (inl (refl, (kept, siblings, children), loose.0, loose.1))))))

        module _ (no_loose : broken ≡ None) where
          covered : IsCovered file
          covered =
              let B : Option ℕ → Type 0 = λ o. IsCoverBreak meta facts links.named.items o in
              to_covered meta facts list links.named.items are kept siblings named_by (subst B no_loose breaks)

          pub tenth : (id : ℕ) → IsLeast (SeesRule facts 10) id → NamesIn file id 10
          tenth id least =
              inr (inr (inr (inr (inr (inr (refl, (kept, siblings, children), covered, least_breaks meta facts list are 10 id (omega arith) least))))))

          well_made : ((id : ℕ) → ¬ (SeesRule facts 10 id)) → AreWellMade file
          well_made none id page at = elim (kept.2 id page at) [
            | inl well ↦ well
            | inr ten ↦ absurd (none id (breaks_seen meta facts list are 10 id (page, at, ten)))
          ]

          pub sound : ((id : ℕ) → ¬ (SeesRule facts 10 id)) → IsSound file
          sound none = record {
            rooted = kept.0;
            counted = kept.1;
            well_made = well_made none;
            siblings = siblings;
            children = children;
            covered = covered;
          }

-- what was found of rule 10
pub some_ten : (facts : List Fact) (o : Option ℕ) (id : ℕ) → o ≡ Some id → MatchOption o ((id : ℕ) → ¬ (SeesRule facts 10 id)) (IsLeast (SeesRule facts 10)) → IsLeast (SeesRule facts 10) id
some_ten facts o id e found =
    let Q : Option ℕ → Type 0 = λ x. MatchOption x ((id : ℕ) → ¬ (SeesRule facts 10 id)) (IsLeast (SeesRule facts 10)) in
    subst Q e found

pub none_ten : (facts : List Fact) (o : Option ℕ) → o ≡ None → MatchOption o ((id : ℕ) → ¬ (SeesRule facts 10 id)) (IsLeast (SeesRule facts 10)) → (id : ℕ) → ¬ (SeesRule facts 10 id)
none_ten facts o e found =
    let Q : Option ℕ → Type 0 = λ x. MatchOption x ((id : ℕ) → ¬ (SeesRule facts 10 id)) (IsLeast (SeesRule facts 10)) in
    subst Q e found
