-- The search for the first child of a parent, and for the one behind another, over the names in its child leaves.
use Rattle.std.proofs.Common.{◌≡◌, inl, inr, ℕ, ◌==◌, ◌||◌, Bool, true, false, not, cond, List, [], ◌∷◌, ◌++◌, Some, None, refl, sym, ap, ◌∙◌, subst, eq-eqb}
use Rattle.std.specs.List.{list_any, filter}
use Rattle.std.proofs.lemmas.Bool.{cases_eq, eqb-true, ne_eqb, or_left, or_right}
use Rattle.std.proofs.lemmas.List.{append_assoc}
use Rattle.std.proofs.lemmas.List.Folds.{list_any-append}
use Rattle.hb_frag.specs.declared.leaves.Leaf.{Leaf}
use Rattle.hb_frag.specs.Leaves.{child_names, firsts}
use Rattle.hb_frag.proofs.Facts.NamesListed.{all_firsts, child_names-append, filter-listed, filter-unlisted, unlisted, with_names-firsts}
use Rattle.hb_consol.specs.ConsolidatorRows.{first_one, one_behind}
use Rattle.hb_consol.specs.Doing.{earlier_of, found_by, is_first, sought}
use Rattle.hb_consol.specs.declared.children.Earlier.{Earlier}
use Rattle.hb_consol.specs.declared.children.Earlier.TheVariants.{First, Other, Neither}
use Rattle.hb_consol.specs.declared.children.Sought.{Sought}
use Rattle.hb_consol.specs.declared.children.Sought.TheVariants.{Before, Behind, There}

-- ---- the first name

pub first_of_firsts : (names : List ℕ) → first_one names ≡ first_one (firsts names)
first_of_firsts [] = refl
first_of_firsts (name ∷ rest) = refl

first_joined : (xs ys : List ℕ) (name : ℕ) → Some name ≡ first_one xs → Some name ≡ first_one (xs ++ ys)
first_joined [] ys name is = absurd (let no : ⊥ = cc in no)
first_joined (x ∷ xs) ys name is = is

rest_joined : (xs ys : List ℕ) → None ≡ first_one xs → first_one ys ≡ first_one (xs ++ ys)
rest_joined [] ys is = refl
rest_joined (x ∷ xs) ys is = absurd (let no : ⊥ = cc in no)

-- of two lists of leaves, what the front has is the first of both, and else what the rest has
pub first_in_front : (xs ys : List Leaf) (name : ℕ) → Some name ≡ first_one (child_names xs) → Some name ≡ first_one (child_names (xs ++ ys))
first_in_front xs ys name is = first_joined (child_names xs) (child_names ys) name is ∙ ap first_one (sym (child_names-append xs ys))

pub first_in_rest : (xs ys : List Leaf) → None ≡ first_one (child_names xs) → first_one (child_names ys) ≡ first_one (child_names (xs ++ ys))
first_in_rest xs ys is = rest_joined (child_names xs) (child_names ys) is ∙ ap first_one (sym (child_names-append xs ys))

-- ---- which of two names stands first

-- what a front tells, or the rest where it tells nothing
abbrev pub or_else : Earlier → Earlier → Earlier
or_else First rest = First
or_else Other rest = Other
or_else Neither rest = rest

earlier_more : (b c : Bool) (front rest both : Earlier) → both ≡ or_else front rest → cond b First (cond c Other both) ≡ or_else (cond b First (cond c Other front)) rest
earlier_more true c front rest both is = refl
earlier_more false true front rest both is = refl
earlier_more false false front rest both is = is

earlier_joined : (name other : ℕ) (xs ys : List ℕ) → earlier_of name other (xs ++ ys) ≡ or_else (earlier_of name other xs) (earlier_of name other ys)
earlier_joined name other [] ys = refl
earlier_joined name other (x ∷ xs) ys = earlier_more (x == name) (x == other) (earlier_of name other xs) (earlier_of name other ys) (earlier_of name other (xs ++ ys)) (earlier_joined name other xs ys)

pub earlier_in_both : (name other : ℕ) (xs ys : List Leaf) → or_else (earlier_of name other (child_names xs)) (earlier_of name other (child_names ys)) ≡ earlier_of name other (child_names (xs ++ ys))
earlier_in_both name other xs ys = sym (earlier_joined name other (child_names xs) (child_names ys)) ∙ ap (earlier_of name other) (sym (child_names-append xs ys))

-- ---- the search over two lists

module _ (names : List ℕ) (child : ℕ) where
  -- a search that has found a child is over
  pub there_stays : (name : ℕ) (rest : List ℕ) → sought names child (There name) rest ≡ There name
  there_stays name [] = refl
  there_stays name (x ∷ rest) = there_stays name rest

  sought_joined : (so_far : Sought) (xs ys : List ℕ) → sought names child (sought names child so_far xs) ys ≡ sought names child so_far (xs ++ ys)
  sought_joined so_far [] ys = refl
  sought_joined Before (x ∷ xs) ys = sought_joined (cond (x == child) Behind Before) xs ys
  sought_joined Behind (x ∷ xs) ys = sought_joined (cond ((x == child) || is_first (earlier_of x child names)) Behind (There x)) xs ys
  sought_joined (There name) (x ∷ xs) ys = sought_joined (There name) xs ys

  pub sought_in_both : (so_far : Sought) (xs ys : List Leaf) → sought names child (sought names child so_far (child_names xs)) (child_names ys) ≡ sought names child so_far (child_names (xs ++ ys))
  sought_in_both so_far xs ys = sought_joined so_far (child_names xs) (child_names ys) ∙ ap (sought names child so_far) (sym (child_names-append xs ys))

-- ---- the names up to the child

last_listed : (seen : List ℕ) (name child : ℕ) → name ≡ child → list_any (λ other. other == name) (seen ++ child ∷ []) ≡ true
last_listed [] name child same = or_left (child == name) false (eq-eqb child name (sym same))
last_listed (x ∷ seen) name child same = or_right (x == name) (list_any (λ other. other == name) (seen ++ child ∷ [])) (last_listed seen name child same)

earlier_step : (b c listed later : Bool) (rest : Earlier) → c || listed ≡ false → (listed ≡ false → is_first rest ≡ later) → is_first (cond b First (cond c Other rest)) ≡ (b || later)
earlier_step true c listed later rest out is = refl
earlier_step false true listed later rest out is = absurd (let no : ⊥ = cc in no)
earlier_step false false listed later rest out is = is out

at_child_itself : (b c : Bool) (rest : Earlier) → c ≡ true → is_first (cond b First (cond c Other rest)) ≡ (b || false)
at_child_itself true c rest is = refl
at_child_itself false true rest is = refl
at_child_itself false false rest is = absurd (let no : ⊥ = cc in no)

-- a name that stands first is among the names up to the child
earlier_listed : (name child : ℕ) (seen rest : List ℕ) → list_any (λ other. other == child) seen ≡ false → is_first (earlier_of name child (seen ++ child ∷ rest)) ≡ list_any (λ other. other == name) (seen ++ child ∷ [])
earlier_listed name child [] rest out = at_child_itself (child == name) (child == child) (earlier_of name child rest) (eq-eqb child child refl)
earlier_listed name child (x ∷ seen) rest out =
    earlier_step (x == name) (x == child) (list_any (λ other. other == child) seen) (list_any (λ other. other == name) (seen ++ child ∷ [])) (earlier_of name child (seen ++ child ∷ rest)) out (earlier_listed name child seen rest)

either : (b c listed : Bool) → (b ≡ true → listed ≡ true) → c ≡ listed → (b || c) ≡ listed
either true c listed at is = sym (at refl)
either false c listed at is = is

-- so what the search passes behind the child is what stands up to it
abbrev pub PassesListed : List ℕ → ℕ → List ℕ → Type 0
PassesListed names child seen = (name : ℕ) → ((name == child) || is_first (earlier_of name child names)) ≡ list_any (λ other. other == name) seen

passes_listed : (child : ℕ) (seen rest : List ℕ) → list_any (λ other. other == child) seen ≡ false → PassesListed (seen ++ child ∷ rest) child (seen ++ child ∷ [])
passes_listed child seen rest out name =
    either (name == child) (is_first (earlier_of name child (seen ++ child ∷ rest))) (list_any (λ other. other == name) (seen ++ child ∷ [])) (λ t. last_listed seen name child (eqb-true name child t)) (earlier_listed name child seen rest out)

-- ---- behind the child

module _ (names : List ℕ) (child : ℕ) where
  behind_step : (name : ℕ) (rest others : List ℕ) (b listed : Bool) → b ≡ listed → (listed ≡ true → found_by (sought names child Behind rest) ≡ first_one others)
      → found_by (sought names child (cond b Behind (There name)) rest) ≡ first_one (cond (not listed) (name ∷ others) others)
  behind_step name rest others true true same later = later refl
  behind_step name rest others true false same later = absurd (let no : ⊥ = cc in no)
  behind_step name rest others false true same later = absurd (let no : ⊥ = cc in no)
  behind_step name rest others false false same later = ap found_by (there_stays names child name rest)

  -- the first name that isn't among those passed
  behind : (seen rest : List ℕ) → PassesListed names child seen → found_by (sought names child Behind rest) ≡ first_one (filter (unlisted seen) (firsts rest))
  behind seen [] passes = refl
  behind seen (name ∷ rest) passes =
      behind_step name rest (filter (unlisted seen) (filter (λ other. not (other == name)) (firsts rest))) ((name == child) || is_first (earlier_of name child names)) (list_any (λ other. other == name) seen) (passes name)
      (λ listed. behind seen rest passes ∙ ap first_one (sym (filter-listed seen name (firsts rest) (ap not listed))))

  -- ---- before it

  -- the child itself
  arrives : (rest others : List ℕ) (unseen : Bool) → unseen ≡ true → found_by (sought names child Behind rest) ≡ first_one others
      → found_by (sought names child (cond (child == child) Behind Before) rest) ≡ one_behind child (cond unseen (child ∷ others) others)
  arrives rest others true new is = rw (eq-eqb child child refl) is
  arrives rest others false new is = absurd (let no : ⊥ = cc in no)

  -- another name
  goes_on : (name : ℕ) (rest others : List ℕ) (unseen : Bool) → (name == child) ≡ false → found_by (sought names child Before rest) ≡ one_behind child others
      → found_by (sought names child (cond (name == child) Behind Before) rest) ≡ one_behind child (cond unseen (name ∷ others) others)
  goes_on name rest others true off is = rw off is
  goes_on name rest others false off is = rw off is

  abbrev AtName : List ℕ → List ℕ → ℕ → Type 0
  AtName seen rest name = names ≡ seen ++ name ∷ rest → found_by (sought names child Before (name ∷ rest)) ≡ one_behind child (filter (unlisted seen) (firsts (name ∷ rest)))

  at_child : (seen rest : List ℕ) → list_any (λ other. other == child) seen ≡ false → AtName seen rest child
  at_child seen rest out all =
      let passes : PassesListed names child (seen ++ child ∷ []) = subst (λ (l : List ℕ). PassesListed l child (seen ++ child ∷ [])) (sym all) (passes_listed child seen rest out) in
      arrives rest (filter (unlisted seen) (filter (λ other. not (other == child)) (firsts rest))) (unlisted seen child) (ap not out)
      (behind (seen ++ child ∷ []) rest passes ∙ ap first_one (filter-unlisted seen child (firsts rest)))

  before : (seen rest : List ℕ) → names ≡ seen ++ rest → list_any (λ other. other == child) seen ≡ false → found_by (sought names child Before rest) ≡ one_behind child (filter (unlisted seen) (firsts rest))
  before seen [] all out = refl
  before seen (name ∷ rest) all out = elim (cases_eq name child) [
    | inl same ↦ subst (AtName seen rest) (sym same) (at_child seen rest out) all
    | inr off ↦
        let other : list_any (λ other. other == child) (seen ++ name ∷ []) ≡ false = rw (list_any-append (λ other. other == child) seen (name ∷ []), out, ne_eqb name child off) refl in
        goes_on name rest (filter (unlisted seen) (filter (λ other. not (other == name)) (firsts rest))) (unlisted seen name) (ne_eqb name child off)
        (before (seen ++ name ∷ []) rest (all ∙ sym (append_assoc seen (name ∷ []) rest)) other ∙ ap (one_behind child) (filter-unlisted seen name (firsts rest)))
  ]

-- what the search finds over all names is the child behind
pub found_behind_child : (names : List ℕ) (child : ℕ) → found_by (sought names child Before names) ≡ one_behind child (firsts names)
found_behind_child names child = before names child [] names refl refl ∙ ap (one_behind child) (sym (with_names-firsts [] names) ∙ all_firsts names)
