-- A page that is read is the page that was spelled, and what was spelled is read again.
use Rattle.std.proofs.Common.{◌≡◌, ℕ, zero, suc, ◌+◌, ◌-◌, ◌^◌, ◌<◌, ◌≤◌, true, false, cond, eqb, ltb, List, [], ◌∷◌, ◌++◌, length, Some, None, refl, sym, ap, subst, ◌∙◌, append_assoc, length-append, arith, ◌⊎◌, inl, inr, Result, Ok, Err}
use Rattle.std.specs.Prelude.{◌↔◌, replicate}
use Rattle.std.specs.List.{list_all}
use Rattle.std.proofs.lemmas.Bool.{eqb-true, eq-eqb, ltb-false, le-ltb, and_parts}
use Rattle.std.proofs.lemmas.List.{length-replicate}
use Rattle.hb_space.specs.declared.form.TheConstants.{PAGE, KMAX}
use Rattle.hb_frag.specs.declared.pages.Page.{Page}
use Rattle.hb_frag.specs.declared.pages.Page.TheVariants.{Live, Free}
use Rattle.hb_frag.specs.Grammar.{point_bytes, tree_bytes, page_fields, FitsTree, FitsPage, HasSpelling, SpellsPage}
use Rattle.hb_page_codec.specs.Reading.{number_at}
use Rattle.hb_page_codec.specs.ReadingFields.{area_at}
use Rattle.hb_page_codec.specs.ReadingPages.{tree_at, head_at, live_at, fields_at, page_of_bytes}
use Rattle.hb_page_codec.proofs.Facts.Fields.{AreBytes-rest, Takes, Takes-then, Takes-byte, wide_4, number_takes, number_again, area_takes, area_again}
use Rattle.hb_page_codec.proofs.TreeLaws.{tree_takes, tree_again}
use Rattle.hb_lemmas.proofs.Booleans.{unless_some, when_some}
use Rattle.std.proofs.lemmas.Option.{same_Some}
use Rattle.hb_page_codec.specs.Exact.{AreBytes}
use Rattle.hb_page_codec.specs.declared.errors.PageError.{PageError}
use Rattle.hb_page_codec.specs.declared.errors.PageError.TheVariants as errors
use Rattle.hb_lemmas.proofs.Options.{bind_some}
use Rattle.hb_lemmas.specs.Options.{◌>>=◌}

-- bytes spell at most one page
abbrev pub SpelledOnce : Type 0
SpelledOnce = (bytes : List ℕ) (p q : Page) → SpellsPage bytes p → SpellsPage bytes q → p ≡ q

-- the level and the number of attributes
pub record TakesHead (bytes : List ℕ) (x : ℕ × ℕ × List ℕ) : Type 0 where
  pub parts : bytes ≡ x.0 ∷ x.1 ∷ 0 ∷ x.2
  pub rest_fits : AreBytes x.2
  pub level : x.0 < 2 ^ 8
  pub some : 0 < x.1
  pub few : x.1 ≤ KMAX

zero_or_more : (k : ℕ) → eqb k 0 ≡ false → 0 < k
zero_or_more zero e = absurd cc
zero_or_more (suc k) e = omega arith

pub head_takes : (bytes : List ℕ) (x : ℕ × ℕ × List ℕ) → AreBytes bytes → head_at bytes ≡ Some x → TakesHead bytes x
unfolding head_at
head_takes [] x fits e = absurd cc
head_takes (level ∷ []) x fits e = absurd cc
head_takes (level ∷ k ∷ []) x fits e = absurd cc
head_takes (level ∷ k ∷ suc b ∷ rest) x fits e = absurd cc
head_takes (level ∷ k ∷ zero ∷ rest) x fits e =
    let g = unless_some (eqb k 0) (cond (ltb KMAX k) None (Some (level, k, rest))) x e in
    let h = unless_some (ltb KMAX k) (Some (level, k, rest)) x g.1 in
    subst (TakesHead (level ∷ k ∷ zero ∷ rest)) (same_Some (level, k, rest) x h.1) (record {
      parts = refl;
      rest_fits = λ i. fits (suc (suc (suc i)));
      level = fits 0;
      some = zero_or_more k g.0;
      few = ltb-false KMAX k h.0;
    })

live_takes : (bytes : List ℕ) (x : Page × List ℕ) → AreBytes bytes → live_at bytes ≡ Some x → Takes (1 ∷ bytes) (page_fields x.0) x.1 × FitsPage x.0
unfolding live_at
live_takes bytes x fits e =
    let h = bind_some (head_at bytes) (λ head. area_at head.1 head.2 >>= λ area. tree_at head.1 area.1 >>= λ tree. Some (Live (record { level = head.0; area = area.0; frag = tree.0 }), tree.1)) x e in
    let level = h.0.0 in
    let k = h.0.1 in
    let a = bind_some (area_at k h.0.2) (λ area. tree_at k area.1 >>= λ tree. Some (Live (record { level = level; area = area.0; frag = tree.0 }), tree.1)) x h.2 in
    let t = bind_some (tree_at k a.0.1) (λ tree. Some (Live (record { level = level; area = a.0.0; frag = tree.0 }), tree.1)) x a.2 in
    let head = head_takes bytes h.0 fits h.1 in
    let area = area_takes k h.0.2 a.0 head.some head.few head.rest_fits a.1 in
    let tree = tree_takes k a.0.1 t.0 area.0.rest_fits t.1 in
    let behind = Takes-then h.0.2 (point_bytes a.0.0.lo ++ point_bytes a.0.0.hi) a.0.1 (tree_bytes t.0.0) t.0.1 area.0 tree.0 in
    let front : 1 ∷ bytes ≡ 1 ∷ level ∷ length a.0.0.lo ∷ 0 ∷ h.0.2 = ap (λ (xs : List ℕ). 1 ∷ xs) head.parts ∙ ap (λ (n : ℕ). 1 ∷ level ∷ n ∷ 0 ∷ h.0.2) (sym area.1) in
    let all : 1 ∷ bytes ≡ page_fields (Live (record { level = level; area = a.0.0; frag = t.0.0 })) ++ t.0.1 = front ∙ ap (λ (xs : List ℕ). 1 ∷ level ∷ length a.0.0.lo ∷ 0 ∷ xs) behind.parts in
    let made : Page × List ℕ = (Live (record { level = level; area = a.0.0; frag = t.0.0 }), t.0.1) in
    let tree_fits : FitsTree (length a.0.0.lo) t.0.0 = subst (λ (n : ℕ). FitsTree n t.0.0) (sym area.1) tree.1 in
    subst (λ (y : Page × List ℕ). Takes (1 ∷ bytes) (page_fields y.0) y.1 × FitsPage y.0) (same_Some made x t.2)
    (record { parts = all; rest_fits = behind.rest_fits }, (head.level, area.2, tree_fits))

fields_take : (bytes : List ℕ) (x : Page × List ℕ) → AreBytes bytes → fields_at bytes ≡ Some x → Takes bytes (page_fields x.0) x.1 × FitsPage x.0
unfolding fields_at
fields_take [] x fits e = absurd cc
fields_take (zero ∷ rest) x fits e = absurd cc
fields_take (suc zero ∷ rest) x fits e = live_takes rest x (AreBytes-rest 1 rest fits) e
fields_take (suc (suc zero) ∷ rest) x fits e =
    let a = bind_some (number_at 4 rest) (λ next. Some (Free next.0, next.1)) x e in
    let next = number_takes 4 (2 ^ 32) wide_4 rest a.0 (AreBytes-rest 2 rest fits) a.1 in
    let made : Page × List ℕ = (Free a.0.0, a.0.1) in
    subst (λ (y : Page × List ℕ). Takes (2 ∷ rest) (page_fields y.0) y.1 × FitsPage y.0) (same_Some made x a.2) (Takes-byte 2 rest _ a.0.1 next.0, next.1)
fields_take (suc (suc (suc b)) ∷ rest) x fits e = absurd cc

are_zeros : (bytes : List ℕ) → list_all (λ b. eqb b 0) bytes ≡ true → bytes ≡ replicate (length bytes) 0
are_zeros [] e = refl
are_zeros (b ∷ rest) e = rw (eqb-true b 0 (and_parts _ _ e).0) (ap (λ (xs : List ℕ). 0 ∷ xs) (are_zeros rest (and_parts _ _ e).1))

zeros_are : (n : ℕ) → list_all (λ b. eqb b 0) (replicate n 0) ≡ true
zeros_are zero = refl
zeros_are (suc n) = zeros_are n

pub page_takes : (bytes : List ℕ) (page : Page) → AreBytes bytes → page_of_bytes bytes ≡ Some page → SpellsPage bytes page
unfolding page_of_bytes
page_takes bytes page fits e =
    let g = when_some (eqb (length bytes) PAGE) (fields_at bytes >>= λ x. cond (list_all (λ b. eqb b 0) x.1) (Some x.0) None) page e in
    let a = bind_some (fields_at bytes) (λ x. cond (list_all (λ b. eqb b 0) x.1) (Some x.0) None) page g.1 in
    let h = when_some (list_all (λ b. eqb b 0) a.0.1) (Some a.0.0) page a.2 in
    let fields = fields_take bytes a.0 fits a.1 in
    subst (SpellsPage bytes) (same_Some a.0.0 page h.1) (record {
      fits = fields.1;
      long = eqb-true _ _ g.0;
      spelled = (length a.0.1, fields.0.parts ∙ ap (λ (rest : List ℕ). page_fields a.0.0 ++ rest) (are_zeros a.0.1 h.0));
    })

zero_not : (k : ℕ) → 0 < k → eqb k 0 ≡ false
zero_not zero h = absurd (omega arith)
zero_not (suc k) h = grind arith

head_again : (level k : ℕ) (rest : List ℕ) → 0 < k → k ≤ KMAX → head_at (level ∷ k ∷ 0 ∷ rest) ≡ Some (level, k, rest)
unfolding head_at
head_again level k rest some few = rw (zero_not k some, le-ltb KMAX k few) refl

fields_again : (page : Page) (rest : List ℕ) → FitsPage page → fields_at (page_fields page ++ rest) ≡ Some (page, rest)
unfolding fields_at live_at
fields_again (Free next) rest fits = rw (number_again 4 (2 ^ 32) wide_4 next rest fits) refl
fields_again (Live page) rest fits =
    let lo = point_bytes page.area.lo in
    let hi = point_bytes page.area.hi in
    let k = length page.area.lo in
    let regrouped : lo ++ hi ++ tree_bytes page.frag ++ rest ≡ lo ++ hi ++ (tree_bytes page.frag ++ rest) = append_assoc (lo ++ hi) (tree_bytes page.frag) rest in
    ap (λ (xs : List ℕ). fields_at (1 ∷ page.level ∷ k ∷ 0 ∷ xs)) regrouped
    ∙ rw (head_again page.level k (lo ++ hi ++ (tree_bytes page.frag ++ rest)) fits.1.lo_point.some fits.1.lo_point.few, area_again page.area (tree_bytes page.frag ++ rest) fits.1, tree_again k page.frag rest fits.2) refl

pub page_again : (bytes : List ℕ) (page : Page) → SpellsPage bytes page → page_of_bytes bytes ≡ Some page
unfolding page_of_bytes
page_again bytes page s =
    let fields : fields_at bytes ≡ Some (page, replicate s.spelled.0 0) = ap fields_at s.spelled.1 ∙ fields_again page (replicate s.spelled.0 0) s.fits in
    rw (eq-eqb (length bytes) PAGE s.long, fields, zeros_are s.spelled.0) refl

-- ---- the laws

-- bytes spell at most one page
pub one_page : (bytes : List ℕ) (p q : Page) → SpellsPage bytes p → SpellsPage bytes q → p ≡ q
one_page bytes p q s t = same_Some p q (sym (page_again bytes p s) ∙ page_again bytes q t)

-- how many zeros there are
pub zeros_left : (bytes : List ℕ) (page : Page) (s : SpellsPage bytes page) → length (page_fields page) + s.spelled.0 ≡ PAGE
zeros_left bytes page s = sym (ap length s.spelled.1 ∙ length-append (page_fields page) (replicate s.spelled.0 0) ∙ ap (λ (n : ℕ). length (page_fields page) + n) (length-replicate s.spelled.0 0)) ∙ s.long

-- each page has at most one spelling
pub one_spelling : (a b : List ℕ) (page : Page) → SpellsPage a page → SpellsPage b page → a ≡ b
one_spelling a b page s t =
    let same : s.spelled.0 ≡ t.spelled.0 = omega (arith, zeros_left a page s, zeros_left b page t) in
    s.spelled.1 ∙ ap (λ (n : ℕ). page_fields page ++ replicate n 0) same ∙ sym t.spelled.1

-- a page has a spelling exactly where its fields have their places and are no longer than a page
pub has_spelling : (page : Page) → HasSpelling page ↔ ((bytes : List ℕ) × SpellsPage bytes page)
has_spelling page = (
  λ h. (
    page_fields page ++ replicate (PAGE - length (page_fields page)) 0,
    record {
      fits = h.fits;
      long = length-append (page_fields page) (replicate (PAGE - length (page_fields page)) 0) ∙ ap (λ (n : ℕ). length (page_fields page) + n) (length-replicate (PAGE - length (page_fields page)) 0) ∙ omega (arith, h.short);
      spelled = (PAGE - length (page_fields page), refl);
    },
  ),
  λ s. record { fits = s.1.fits; short = omega (arith, zeros_left s.0 page s.1) },
)

-- bad bytes give no page
pub decodes_nothing : (e : PageError) → e ≡ errors.BadPage → (page : Page)
    → (◌≡◌ {A = Result Page PageError} (Err e) (Ok page)) ⊎ (◌≡◌ {A = Result Page PageError} (Err e) (Err errors.NoMemory)) → ⊥
decodes_nothing e bad page (inl ok) = cc ok
decodes_nothing e bad page (inr refused) = cc (bad, refused)
