-- There is one whole walk for a point: each page names one next page, or none.
use Rattle.std.proofs.Common.{◌≡◌, ℕ, inl, inr, List, [], ◌∷◌, refl, sym, ap, subst, ◌∙◌}
use Rattle.hb_space.specs.declared.records.Record.{Record}
use Rattle.hb_frag.specs.declared.leaves.Leaf.{Leaf}
use Rattle.hb_frag.specs.declared.leaves.Leaf.TheVariants.{Records, Child, Sibling}
use Rattle.hb_frag.specs.declared.pages.LivePage.{LivePage}
use Rattle.hb_frag.specs.Leaves.{leaf_at, Placed}
use Rattle.hb_ops.specs.Files.{FileState, live_page}
use Rattle.hb_sound.specs.Laws.{WalksAreOne}
use Rattle.hb_sound.specs.PointWalks.{IsWalk, LeadsOn, Sees}
use Rattle.hb_ops.proofs.Facts.PlacedLaws.{placed}
use Rattle.hb_lemmas.proofs.Options.{one_value}

one_leaf : (s : FileState) (p : List ℕ) (id : ℕ) (a b : Leaf) → Sees s p id a → Sees s p id b → a ≡ b
one_leaf s p id a b x y =
    let same = one_value (live_page s id) x.page y.page x.live y.live in
    ap (λ (l : Placed). l.leaf) (one_value (leaf_at x.page p) (placed a x.area) (placed b y.area) x.there (ap (λ (q : LivePage). leaf_at q p) same ∙ y.there))

-- a page whose leaf at the point has records leads nowhere
leads_nowhere : (s : FileState) (p : List ℕ) (id next : ℕ) (records : List Record) → Sees s p id (Records records) → LeadsOn s p id next → ⊥
leads_nowhere s p id next records x (inl y) = let e = one_leaf s p id (Records records) (Child next) x y in let no : ⊥ = cc in no
leads_nowhere s p id next records x (inr y) = let e = one_leaf s p id (Records records) (Sibling next) x y in let no : ⊥ = cc in no

leads_once : (s : FileState) (p : List ℕ) (id next other : ℕ) → LeadsOn s p id next → LeadsOn s p id other → next ≡ other
leads_once s p id next other (inl x) (inl y) = let e = one_leaf s p id (Child next) (Child other) x y in cc
leads_once s p id next other (inl x) (inr y) = let e = one_leaf s p id (Child next) (Sibling other) x y in absurd (let no : ⊥ = cc in no)
leads_once s p id next other (inr x) (inl y) = let e = one_leaf s p id (Sibling next) (Child other) x y in absurd (let no : ⊥ = cc in no)
leads_once s p id next other (inr x) (inr y) = let e = one_leaf s p id (Sibling next) (Sibling other) x y in cc

same_walk : (s : FileState) (p : List ℕ) (id last end : ℕ) (rest others : List ℕ) (records some : List Record) → IsWalk s p id rest last → Sees s p last (Records records) → IsWalk s p id others end → Sees s p end (Records some) → (rest ≡ others) × (last ≡ end)
same_walk s p id last end [] [] records some walk ends again stops = (refl, sym walk ∙ again)
same_walk s p id last end [] (y ∷ others) records some walk ends again stops = absurd (leads_nowhere s p id y records (subst (λ (n : ℕ). Sees s p n (Records records)) (sym walk) ends) again.0)
same_walk s p id last end (x ∷ rest) [] records some walk ends again stops = absurd (leads_nowhere s p id x some (subst (λ (n : ℕ). Sees s p n (Records some)) (sym again) stops) walk.0)
same_walk s p id last end (x ∷ rest) (y ∷ others) records some walk ends again stops =
    let same = leads_once s p id x y walk.0 again.0 in
    let later = same_walk s p x last end rest others records some walk.1 ends (subst (λ (n : ℕ). IsWalk s p n others end) (sym same) again.1) stops in
    (let e : (x ∷ rest) ≡ (y ∷ others) = cc (same, later.0) in e, later.1)

pub walks_are_one : WalksAreOne
walks_are_one s p id rest others last end one other = same_walk s p id last end rest others one.records other.records one.walk one.ends other.walk other.ends
