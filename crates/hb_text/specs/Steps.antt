-- How many steps of a schedule are left behind those of a step line.
use Rattle.std.specs.Prelude.{ℕ, ◌-◌, nat_le, if◌then◌else◌, List, [], ◌∷◌, length, Option, Some, None}
use Rattle.hb_text.specs.StepWords.{word_steps}

abbrev pub left_after : ℕ → Option (List ℕ) → Option ℕ
left_after left None = None
left_after left (Some steps) = if nat_le (length steps) left then Some (left - length steps) else None

abbrev pub then_left : Option ℕ → (ℕ → Option ℕ) → Option ℕ
then_left None rest = None
then_left (Some left) rest = rest left

abbrev pub steps_left : ℕ → List (List ℕ) → Option ℕ
steps_left left [] = Some left
steps_left left (word ∷ words) = then_left (left_after left (word_steps word)) (λ rest. steps_left rest words)
