-- Too few words, or too many, are no form; and the counts of a form are within their limits.
use Rattle.std.proofs.Common.{◌≡◌, ℕ, ◌<◌, ◌≤◌, inl, inr, cond, ◌&&◌, subst, List, [], ◌∷◌, length, Option, Some, None, refl, arith}
use Rattle.std.specs.Prelude.{nat_le, codes}
use Rattle.std.specs.Str.{bytes_eq}
use Rattle.std.proofs.lemmas.Bool.Decides.{nat_tests}
use Rattle.std.proofs.lemmas.Option.{same_Some}
use Rattle.hbpi.specs.declared.forms.Form.{Form}
use Rattle.hbpi.specs.declared.forms.Form.TheVariants.{Create, Dry, Run, Drive, Check, Map, Tidy, Gen, Work}
use Rattle.hbpi.specs.Forms.{FitsLimits, number_said, attributes_of, line_count_of, create_of, dry_of, gen_of, work_of, alone, form_from, form_of}
use Rattle.hb_lemmas.proofs.Booleans.{chosen}
use Rattle.hb_lemmas.proofs.Options.{bind_some}

pub create_short : (ws : List (List ℕ)) → length ws < 5 → create_of ws ≡ None
create_short [] h = refl
create_short (a ∷ []) h = refl
create_short (a ∷ b ∷ []) h = refl
create_short (a ∷ b ∷ c ∷ []) h = refl
create_short (a ∷ b ∷ c ∷ d ∷ []) h = refl
create_short (a ∷ b ∷ c ∷ d ∷ e ∷ ws) h = absurd (omega arith)

pub create_long : (ws : List (List ℕ)) → 5 < length ws → create_of ws ≡ None
create_long [] h = absurd (omega arith)
create_long (a ∷ []) h = absurd (omega arith)
create_long (a ∷ b ∷ []) h = absurd (omega arith)
create_long (a ∷ b ∷ c ∷ []) h = absurd (omega arith)
create_long (a ∷ b ∷ c ∷ d ∷ []) h = absurd (omega arith)
create_long (a ∷ b ∷ c ∷ d ∷ e ∷ []) h = absurd (omega arith)
create_long (a ∷ b ∷ c ∷ d ∷ e ∷ f ∷ ws) h = refl

pub gen_short : (ws : List (List ℕ)) → length ws < 3 → gen_of ws ≡ None
gen_short [] h = refl
gen_short (a ∷ []) h = refl
gen_short (a ∷ b ∷ []) h = refl
gen_short (a ∷ b ∷ c ∷ ws) h = absurd (omega arith)

pub gen_long : (ws : List (List ℕ)) → 3 < length ws → gen_of ws ≡ None
gen_long [] h = absurd (omega arith)
gen_long (a ∷ []) h = absurd (omega arith)
gen_long (a ∷ b ∷ []) h = absurd (omega arith)
gen_long (a ∷ b ∷ c ∷ []) h = absurd (omega arith)
gen_long (a ∷ b ∷ c ∷ d ∷ ws) h = refl

fits_as : (f g : Form) → FitsLimits f → Some f ≡ Some g → FitsLimits g
fits_as f g fits e = subst FitsLimits (same_Some f g e) fits

attributes_fit : (word : List ℕ) (k : ℕ) → attributes_of word ≡ Some k → (0 < k) × (k ≤ 4)
attributes_fit word k e =
    let n = bind_some (number_said word) (λ k. cond (nat_le 1 k && nat_le k 4) (Some k) None) k e in
    elim (chosen (nat_le 1 n.0 && nat_le n.0 4) (Some n.0) None (Some k) n.2) [
      | inl fits ↦ let same = same_Some n.0 k fits.1 in (grind (arith, nat_tests, fits.0, same), grind (arith, nat_tests, fits.0, same))
      | inr none ↦ cc (none.1)
    ]

lines_fit : (word : List ℕ) (n : ℕ) → line_count_of word ≡ Some n → n ≤ 1000000
lines_fit word n e =
    let m = bind_some (number_said word) (λ n. cond (nat_le n 1000000) (Some n) None) n e in
    elim (chosen (nat_le m.0 1000000) (Some m.0) None (Some n) m.2) [
      | inl fits ↦ let same = same_Some m.0 n fits.1 in grind (arith, nat_tests, fits.0, same)
      | inr none ↦ cc (none.1)
    ]

dry_fits : (words : List (List ℕ)) (form : Form) → dry_of words ≡ Some form → FitsLimits form
dry_fits [] form e = cc
dry_fits (word ∷ []) form e =
    let k = bind_some (attributes_of word) (λ k. Some (Dry k)) form e in
    fits_as (Dry k.0) form (attributes_fit word k.0 k.1) k.2
dry_fits (a ∷ b ∷ words) form e = cc

create_fits : (words : List (List ℕ)) (form : Form) → create_of words ≡ Some form → FitsLimits form
create_fits [] form e = cc
create_fits (a ∷ []) form e = cc
create_fits (a ∷ b ∷ []) form e = cc
create_fits (a ∷ b ∷ c ∷ []) form e = cc
create_fits (a ∷ b ∷ c ∷ d ∷ []) form e = cc
create_fits (a ∷ b ∷ c ∷ d ∷ i ∷ []) form e =
    let one = bind_some (number_said a) _ form e in
    let two = bind_some (number_said b) _ form one.2 in
    let three = bind_some (number_said c) _ form two.2 in
    let four = bind_some (number_said d) _ form three.2 in
    let five = bind_some (number_said i) _ form four.2 in
    fits_as (Create one.0 two.0 three.0 four.0 five.0) form tt five.2
create_fits (a ∷ b ∷ c ∷ d ∷ i ∷ j ∷ words) form e = cc

gen_fits : (words : List (List ℕ)) (form : Form) → gen_of words ≡ Some form → FitsLimits form
gen_fits [] form e = cc
gen_fits (a ∷ []) form e = cc
gen_fits (a ∷ b ∷ []) form e = cc
gen_fits (a ∷ b ∷ c ∷ []) form e =
    let x = bind_some (number_said a) _ form e in
    let n = bind_some (line_count_of b) _ form x.2 in
    let k = bind_some (attributes_of c) _ form n.2 in
    let fits = attributes_fit c k.0 k.1 in
    fits_as (Gen x.0 n.0 k.0) form (lines_fit b n.0 n.1, fits.0, fits.1) k.2
gen_fits (a ∷ b ∷ c ∷ d ∷ words) form e = cc

work_fits : (words : List (List ℕ)) (form : Form) → work_of words ≡ Some form → FitsLimits form
work_fits [] form e = cc
work_fits (a ∷ []) form e = cc
work_fits (a ∷ b ∷ []) form e =
    let x = bind_some (number_said a) _ form e in
    let n = bind_some (line_count_of b) _ form x.2 in
    fits_as (Work x.0 n.0) form (lines_fit b n.0 n.1) n.2
work_fits (a ∷ b ∷ c ∷ words) form e = cc

alone_fits : (f : Form) (words : List (List ℕ)) (form : Form) → FitsLimits f → alone f words ≡ Some form → FitsLimits form
alone_fits f [] form fits e = fits_as f form fits e
alone_fits f (word ∷ words) form fits e = cc

from_fits : (first : List ℕ) (words : List (List ℕ)) (form : Form) → form_from first words ≡ Some form → FitsLimits form
from_fits first words form e =
    let at_work : Option Form = cond (bytes_eq first (codes "work")) (work_of words) None in
    let at_gen = cond (bytes_eq first (codes "gen")) (gen_of words) at_work in
    let at_tidy = cond (bytes_eq first (codes "tidy")) (alone Tidy words) at_gen in
    let at_map = cond (bytes_eq first (codes "map")) (alone Map words) at_tidy in
    let at_check = cond (bytes_eq first (codes "check")) (alone Check words) at_map in
    let at_drive = cond (bytes_eq first (codes "drive")) (alone Drive words) at_check in
    let at_run = cond (bytes_eq first (codes "run")) (alone Run words) at_drive in
    let at_dry = cond (bytes_eq first (codes "dry")) (dry_of words) at_run in
    elim (chosen (bytes_eq first (codes "create")) (create_of words) at_dry (Some form) e) [
      | inl is ↦ create_fits words form is.1
      | inr r1 ↦ elim (chosen (bytes_eq first (codes "dry")) (dry_of words) at_run (Some form) r1.1) [
        | inl is ↦ dry_fits words form is.1
        | inr r2 ↦ elim (chosen (bytes_eq first (codes "run")) (alone Run words) at_drive (Some form) r2.1) [
          | inl is ↦ alone_fits Run words form tt is.1
          | inr r3 ↦ elim (chosen (bytes_eq first (codes "drive")) (alone Drive words) at_check (Some form) r3.1) [
            | inl is ↦ alone_fits Drive words form tt is.1
            | inr r4 ↦ elim (chosen (bytes_eq first (codes "check")) (alone Check words) at_map (Some form) r4.1) [
              | inl is ↦ alone_fits Check words form tt is.1
              | inr r5 ↦ elim (chosen (bytes_eq first (codes "map")) (alone Map words) at_tidy (Some form) r5.1) [
                | inl is ↦ alone_fits Map words form tt is.1
                | inr r6 ↦ elim (chosen (bytes_eq first (codes "tidy")) (alone Tidy words) at_gen (Some form) r6.1) [
                  | inl is ↦ alone_fits Tidy words form tt is.1
                  | inr r7 ↦ elim (chosen (bytes_eq first (codes "gen")) (gen_of words) at_work (Some form) r7.1) [
                    | inl is ↦ gen_fits words form is.1
                    | inr r8 ↦ elim (chosen (bytes_eq first (codes "work")) (work_of words) None (Some form) r8.1) [
                      | inl is ↦ work_fits words form is.1
                      | inr r9 ↦ cc (r9.1)
                    ]
                  ]
                ]
              ]
            ]
          ]
        ]
      ]
    ]

pub form_fits : (words : List (List ℕ)) (form : Form) → form_of words ≡ Some form → FitsLimits form
unfolding form_of
form_fits [] form e = cc
form_fits (first ∷ words) form e = from_fits first words form e
