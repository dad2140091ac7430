-- The pages in this turn's log are those that the groups touch, also after a group more; and once the page images of
-- a group are set, the touched pages that its operation reads are those in memory.
use Rattle.std.proofs.Common.{◌≡◌, ◌⊎◌, inl, inr, ℕ, zero, suc, ◌<◌, ◌==◌, Bool, true, false, cond, List, [], ◌∷◌, ◌++◌, length, get_or, All, Option, Some, None, IsSome, IsTrue, refl, sym, ap, ◌∙◌, subst, arith}
use Rattle.std.specs.Prelude.{◌||◌}
use Rattle.std.specs.Option.{is_some}
use Rattle.std.proofs.lemmas.Bool.{cases_Bool, cases_lt, eq-eqb, eqb-false, eqb-true, or_right}
use Rattle.std.proofs.lemmas.List.{get_or_past}
use Rattle.std.proofs.lemmas.List.Elements.{All-head, All-tail}
use Rattle.hb_frag.specs.declared.pages.Page.{Page}
use Rattle.hb_store.specs.Making.{page_image_needed, page_images_needed}
use Rattle.hb_store.specs.Replay.{is_among}
use Rattle.hb_ops.specs.SetPages.{set_pages, has_page}
use Rattle.hb_lemmas.proofs.Options.{some_value, none_so}
use Rattle.hb_lemmas.proofs.Booleans.{at_same, at_other}
use Rattle.hb_store.proofs.Facts.Setting.{set_some}

among_at : (ids : List ℕ) (place : ℕ) → place < length ids → is_among (get_or ids place 0) ids ≡ true
among_at [] place lt = absurd (omega (arith, lt))
among_at (id ∷ rest) zero lt = ap (λ (b : Bool). b || is_among id rest) (eq-eqb id id refl)
among_at (id ∷ rest) (suc place) lt =
    ap (λ (b : Bool). (get_or rest place 0 == id) || b) (among_at rest place (omega (arith, lt))) ∙ or_right (get_or rest place 0 == id) true refl

-- P are pages in memory, and I says which of them are in the log.
module _ (P : ℕ → Option Page) (I : ℕ → Bool) where
  in_log_with : (id q : ℕ) (o : Option Page) (b : Bool) (more : List (ℕ × Page)) (among : Bool) → IsSome o → I id ≡ b → (has_page q more || I q) ≡ (among || I q)
      → (has_page q (page_image_needed id o b ++ more) || I q) ≡ (((q == id) || among) || I q)
  in_log_with id q None b more among some is ih = cc some
  in_log_with id q (Some page) true more among some is ih =
      ih ∙ elim (q == id) as (λ b. (q == id) ≡ b → (among || I q) ≡ ((b || among) || I q)) [
        | true ↦ λ here. ap (λ (b : Bool). among || b) (ap I (eqb-true q id here) ∙ is) ∙ or_right among true refl
        | false ↦ λ off. refl
      ] refl
  in_log_with id q (Some page) false more among some is ih =
      elim (q == id) as (λ b. ((b || has_page q more) || I q) ≡ ((b || among) || I q)) [ true ↦ refl | false ↦ ih ]

  -- a number has a page image of its group, or is in the log before, exactly where it is one of these or is in the log before
  pub in_log_all : (ids : List ℕ) (q : ℕ) → All (λ id. IsSome (P id)) ids → (has_page q (page_images_needed P I ids) || I q) ≡ (is_among q ids || I q)
  in_log_all [] q some = refl
  in_log_all (id ∷ rest) q some =
      let S = λ (n : ℕ). IsSome (P n) in
      in_log_with id q (P id) (I id) (page_images_needed P I rest) (is_among q rest) (All-head S id rest some) refl (in_log_all rest q (All-tail S id rest some))

  not_with : (id q : ℕ) (o : Option Page) (b : Bool) (more : List (ℕ × Page)) → P id ≡ o → P q ≡ None → has_page q more ≡ false → has_page q (page_image_needed id o b ++ more) ≡ false
  not_with id q None b more is none ih = ih
  not_with id q (Some page) true more is none ih = ih
  not_with id q (Some page) false more is none ih = elim (cases_Bool (q == id)) [
    | inl here ↦ let there : None ≡ Some page = sym none ∙ ap P (eqb-true q id here) ∙ is in cc there
    | inr off ↦ ap (λ (b : Bool). b || has_page q more) off ∙ ih
  ]

  not_needed : (ids : List ℕ) (q : ℕ) → P q ≡ None → has_page q (page_images_needed P I ids) ≡ false
  not_needed [] q none = refl
  not_needed (id ∷ rest) q none = not_with id q (P id) (I id) (page_images_needed P I rest) refl none (not_needed rest q none)

  -- why a page is the touched one once the images are set: it was, or it is needed
  abbrev IsRead : ℕ → Page → Bool → (ℕ → Option Page) → Type 0
  IsRead q page among T = (T q ≡ Some page) ⊎ ((I q ≡ false) × (among ≡ true))

  read_later : (id q : ℕ) (page : Page) (among : Bool) (T : ℕ → Option Page) → (q == id) ≡ false → IsRead q page ((q == id) || among) T → IsRead q page among T
  read_later id q page among T off (inl e) = inl e
  read_later id q page among T off (inr (out, at)) = inr (out, ap (λ (b : Bool). b || among) (sym off) ∙ at)

  read_in_log : (q : ℕ) (page : Page) (among : Bool) (T : ℕ → Option Page) → I q ≡ true → IsRead q page among T → T q ≡ Some page
  read_in_log q page among T on (inl e) = e
  read_in_log q page among T on (inr (out, at)) = let never : true ≡ false = sym on ∙ out in cc never

  read_other : (q : ℕ) (page : Page) (among : Bool) (T U : ℕ → Option Page) → U q ≡ T q → IsRead q page among T → IsRead q page among U
  read_other q page among T U same (inl e) = inl (same ∙ e)
  read_other q page among T U same (inr why) = inr why

  read_with : (id q : ℕ) (o : Option Page) (b : Bool) (more : List (ℕ × Page)) (among : Bool) (page : Page) → P id ≡ o → I id ≡ b → P q ≡ Some page
      → ((T : ℕ → Option Page) → IsRead q page among T → set_pages more T q ≡ Some page)
      → (T : ℕ → Option Page) → IsRead q page ((q == id) || among) T → set_pages (page_image_needed id o b ++ more) T q ≡ Some page
  read_with id q None b more among page is on there go T why = elim (cases_Bool (q == id)) [
    | inl here ↦ let never : Some page ≡ None = sym there ∙ ap P (eqb-true q id here) ∙ is in cc never
    | inr off ↦ go T (read_later id q page among T off why)
  ]
  read_with id q (Some p) true more among page is on there go T why = elim (cases_Bool (q == id)) [
    | inl here ↦ go T (inl (read_in_log q page ((q == id) || among) T (ap I (eqb-true q id here) ∙ on) why))
    | inr off ↦ go T (read_later id q page among T off why)
  ]
  read_with id q (Some p) false more among page is on there go T why =
      let U : ℕ → Option Page = λ r. cond (r == id) (Some p) (T r) in
      elim (cases_Bool (q == id)) [
        | inl here ↦ go U (inl (at_same q id (Some p) (T q) (eqb-true q id here) ∙ sym is ∙ ap P (sym (eqb-true q id here)) ∙ there))
        | inr off ↦ go U (read_other q page among T U (at_other q id (Some p) (T q) (eqb-false q id off)) (read_later id q page among T off why))
      ]

  read_set : (ids : List ℕ) (q : ℕ) (page : Page) → P q ≡ Some page → (T : ℕ → Option Page) → IsRead q page (is_among q ids) T → set_pages (page_images_needed P I ids) T q ≡ Some page
  read_set [] q page there T (inl e) = e
  read_set [] q page there T (inr (out, at)) = cc at
  read_set (id ∷ rest) q page there T why =
      read_with id q (P id) (I id) (page_images_needed P I rest) (is_among q rest) page refl refl there (λ U later. read_set rest q page there U later) T why

  -- the page at a place of an operation's reads, and none behind them
  pub read_page : (ids : List ℕ) (place : ℕ) (T : ℕ → Option Page) → P 0 ≡ None → T 0 ≡ None → ((q : ℕ) (page : Page) → P q ≡ Some page → IsTrue (I q) → T q ≡ Some page)
      → All (λ id. IsSome (P id)) ids → set_pages (page_images_needed P I ids) T (get_or ids place 0) ≡ P (get_or ids place 0)
  read_page ids place T none untouched agrees some = elim (cases_lt place (length ids)) [
    | inl lt ↦
        let q = get_or ids place 0 in
        let there = some_value (P q) (some place 0 lt) in
        let why : IsRead q there.0 (is_among q ids) T = elim (cases_Bool (I q)) [
          | inl on ↦ inl (agrees q there.0 there.1 on)
          | inr off ↦ inr (off, among_at ids place lt)
        ] in
        read_set ids q there.0 there.1 T why ∙ sym there.1
    | inr le ↦
        let past : get_or ids place 0 ≡ 0 = get_or_past ids place 0 le in
        let images = page_images_needed P I ids in
        let off : is_some (set_pages images T 0) ≡ false =
        set_some images T 0 ∙ ap (λ (b : Bool). b || is_some (T 0)) (not_needed ids 0 none) ∙ ap (λ (o : Option Page). is_some o) untouched in
        subst (λ (n : ℕ). set_pages images T n ≡ P n) (sym past) (none_so (set_pages images T 0) off ∙ sym none)
  ]
