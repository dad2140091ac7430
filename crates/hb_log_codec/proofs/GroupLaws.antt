-- What follows of groups from how they are spelled: bytes spell one list of groups at most.
use Rattle.std.proofs.Common.{◌≡◌, ℕ, ◌+◌, ◌-◌, List, [], ◌∷◌, ◌++◌, length, drop, All, refl, sym, ap, subst, ◌∙◌, append_assoc, length-append, arith}
use Rattle.std.specs.Prelude.{replicate}
use Rattle.std.specs.List.{flat_map}
use Rattle.std.proofs.lemmas.List.{length-replicate}
use Rattle.std.proofs.lemmas.List.Elements.{All-head, All-tail}
use Rattle.hb_space.specs.declared.form.TheConstants.{PAGE}
use Rattle.hb_lemmas.specs.Numbers.{big_endian}
use Rattle.hb_frag.specs.declared.pages.Page.{Page}
use Rattle.hb_frag.specs.Grammar.{HasSpelling, SpellsPage, page_fields}
use Rattle.hb_ops.specs.declared.operations.Op.{Op}
use Rattle.hb_log_codec.specs.Groups.{Logged, FitsGroup, FitsPageImage, FitsOp, SpellsGroups, group_bytes, page_image_bytes, op_bytes, page_bytes}
use Rattle.hb_log_codec.specs.Fields.{op_at}
use Rattle.hb_log_codec.specs.Reading.{page_images_bytes}
use Rattle.hb_log_codec.specs.ExactFields.{ExactFields}
use Rattle.hb_log_codec.proofs.OpLaws.{op_again, same_number}
use Rattle.std.proofs.lemmas.Option.{same_Some}
use Rattle.hb_page_codec.proofs.Facts.PageLaws.{zeros_left, SpelledOnce}
use Rattle.hb_lemmas.proofs.Lists.{same_fronts, same_first}

-- The bytes of a page are its one spelling.
pub spells_page_bytes : (page : Page) → HasSpelling page → SpellsPage (page_bytes page) page
spells_page_bytes page h = record {
  fits = h.fits;
  long = length-append (page_fields page) (replicate (PAGE - length (page_fields page)) 0) ∙ ap (λ (n : ℕ). length (page_fields page) + n) (length-replicate (PAGE - length (page_fields page)) 0) ∙ omega (arith, h.short);
  spelled = (PAGE - length (page_fields page), refl);
}

pub page_bytes_spell : (bytes : List ℕ) (page : Page) → SpellsPage bytes page → (bytes ≡ page_bytes page) × HasSpelling page
page_bytes_spell bytes page s =
    let count : s.spelled.0 ≡ PAGE - length (page_fields page) = omega (arith, zeros_left bytes page s) in (
      s.spelled.1 ∙ ap (λ (n : ℕ). page_fields page ++ replicate n 0) count,
      record { fits = s.fits; short = omega (arith, zeros_left bytes page s) },
    )

pub length_page : (page : Page) → HasSpelling page → length (page_bytes page) ≡ PAGE
length_page page h = (spells_page_bytes page h).long

-- no operation's spelling begins another's
pub same_op : ExactFields → (k : ℕ) (x y : Op) (r s : List ℕ) → FitsOp k x → FitsOp k y → op_bytes x ++ r ≡ op_bytes y ++ s → (x ≡ y) × (r ≡ s)
same_op f k x y r s x_fits y_fits e =
    let both : (x, r) ≡ (y, s) = same_Some (x, r) (y, s) (sym (op_again f k x r x_fits) ∙ ap (op_at k) e ∙ op_again f k y s y_fits) in
    (ap (λ (p : Op × List ℕ). p.0) both, ap (λ (p : Op × List ℕ). p.1) both)

module _ (f : ExactFields) (once : SpelledOnce) where
  pub same_page : (p q : Page) (r s : List ℕ) → HasSpelling p → HasSpelling q → page_bytes p ++ r ≡ page_bytes q ++ s → (p ≡ q) × (r ≡ s)
  same_page p q r s p_has q_has e =
      let parts = same_fronts (page_bytes p) (page_bytes q) r s (length_page p p_has ∙ sym (length_page q q_has)) e in
      (once (page_bytes p) p q (spells_page_bytes p p_has) (subst (λ b. SpellsPage b q) (sym parts.0) (spells_page_bytes q q_has)), parts.1)

  pub same_page_image : (x y : ℕ × Page) (r s : List ℕ) → FitsPageImage x → FitsPageImage y → page_image_bytes x ++ r ≡ page_image_bytes y ++ s → (x ≡ y) × (r ≡ s)
  same_page_image x y r s x_fits y_fits e =
      let numbers = same_number f x.0 y.0 (page_bytes x.1 ++ r) (page_bytes y.1 ++ s) x_fits.number y_fits.number (sym (append_assoc (big_endian 4 x.0) (page_bytes x.1) r) ∙ e ∙ append_assoc (big_endian 4 y.0) (page_bytes y.1) s) in
      let pages = same_page x.1 y.1 r s x_fits.page y_fits.page numbers.1 in
      (λ i. (numbers.0 i, pages.0 i), pages.1)

  pub same_page_images : (xs ys : List (ℕ × Page)) (r s : List ℕ) → All FitsPageImage xs → All FitsPageImage ys → length xs ≡ length ys → page_images_bytes xs ++ r ≡ page_images_bytes ys ++ s → (xs ≡ ys) × (r ≡ s)
  same_page_images [] [] r s x_fit y_fit many e = (refl, e)
  same_page_images [] (y ∷ ys) r s x_fit y_fit many e = absurd (omega (arith, many))
  same_page_images (x ∷ xs) [] r s x_fit y_fit many e = absurd (omega (arith, many))
  same_page_images (x ∷ xs) (y ∷ ys) r s x_fit y_fit many e =
      let one = same_page_image x y (page_images_bytes xs ++ r) (page_images_bytes ys ++ s) (All-head FitsPageImage x xs x_fit) (All-head FitsPageImage y ys y_fit)
      (sym (append_assoc (page_image_bytes x) (page_images_bytes xs) r) ∙ e ∙ append_assoc (page_image_bytes y) (page_images_bytes ys) s) in
      let more = same_page_images xs ys r s (All-tail FitsPageImage x xs x_fit) (All-tail FitsPageImage y ys y_fit) (omega (arith, many)) one.1 in
      (λ i. one.0 i ∷ more.0 i, more.1)

  -- no group's spelling begins another's over as many attributes
  pub same_group : (k : ℕ) (x y : Logged) (r s : List ℕ) → FitsGroup k x → FitsGroup k y → group_bytes x ++ r ≡ group_bytes y ++ s → (x ≡ y) × (r ≡ s)
  same_group k x y r s x_fits y_fits e =
      let tails : page_images_bytes x.images ++ (op_bytes x.op ++ r) ≡ page_images_bytes y.images ++ (op_bytes y.op ++ s) =
      sym (append_assoc (page_images_bytes x.images) (op_bytes x.op) r) ∙ ap (λ (l : List ℕ). drop 1 l) e ∙ append_assoc (page_images_bytes y.images) (op_bytes y.op) s in
      let counts : length x.images ≡ length y.images = same_first (length x.images) (length y.images) _ _ e in
      let images = same_page_images x.images y.images (op_bytes x.op ++ r) (op_bytes y.op ++ s) x_fits.images y_fits.images counts tails in
      let ops = same_op f k x.op y.op r s x_fits.op y_fits.op images.1 in
      (λ i. record { images = images.0 i; op = ops.0 i }, ops.1)

  all_same : (k : ℕ) (xs ys : List Logged) → All (FitsGroup k) xs → All (FitsGroup k) ys → flat_map group_bytes xs ≡ flat_map group_bytes ys → xs ≡ ys
  all_same k [] [] x_fit y_fit e = refl
  all_same k [] (y ∷ ys) x_fit y_fit e = absurd (omega (arith, ap (λ (l : List ℕ). length l) e))
  all_same k (x ∷ xs) [] x_fit y_fit e = absurd (omega (arith, ap (λ (l : List ℕ). length l) e))
  all_same k (x ∷ xs) (y ∷ ys) x_fit y_fit e =
      let one = same_group k x y (flat_map group_bytes xs) (flat_map group_bytes ys) (All-head (FitsGroup k) x xs x_fit) (All-head (FitsGroup k) y ys y_fit) e in
      let more = all_same k xs ys (All-tail (FitsGroup k) x xs x_fit) (All-tail (FitsGroup k) y ys y_fit) one.1 in
      λ i. one.0 i ∷ more i

  -- bytes spell one list of groups at most
  pub same_groups : (k : ℕ) (bytes : List ℕ) (xs ys : List Logged) → SpellsGroups k bytes xs → SpellsGroups k bytes ys → xs ≡ ys
  same_groups k bytes xs ys x_spell y_spell = all_same k xs ys x_spell.fits y_spell.fits (sym x_spell.bytes_are ∙ y_spell.bytes_are)
