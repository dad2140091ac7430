-- Counts of operations that are added, and those of events that come one behind the other.
use Rattle.std.proofs.Common.{◌≡◌, ℕ, ◌+◌, ◌≤◌, List, ◌++◌, cond, ap, ◌∙◌, arith}
use Rattle.std.proofs.lemmas.List.Sums.{sum_by-append}
use Rattle.hb_core.specs.Counts.{no_counts}
use Rattle.hb_core.specs.declared.counts.TidyCounts.{TidyCounts}
use Rattle.hb_tidy.specs.Counted.{AreAtMost, added}
use Rattle.hb_tidy.specs.Working.{Event, is_growth, is_merge, is_posting, is_split, operations_in}

-- counts are the same by their parts
pub same_counts : (a b : TidyCounts) → a.grown ≡ b.grown → a.posted ≡ b.posted → a.split ≡ b.split → a.merged ≡ b.merged → a ≡ b
same_counts a b grown posted split merged =
    ap (λ (n : ℕ). record a { grown = n }) grown
    ∙ ap (λ (n : ℕ). record { grown = b.grown; posted = n; split = a.split; merged = a.merged }) posted
    ∙ ap (λ (n : ℕ). record { grown = b.grown; posted = b.posted; split = n; merged = a.merged }) split
    ∙ ap (λ (n : ℕ). record b { merged = n }) merged

pub plus_none : (n : ℕ) → n ≡ n + 0
plus_none n = omega arith

pub added_none : (c : TidyCounts) → c ≡ added c no_counts
added_none c = same_counts c (added c no_counts) (plus_none c.grown) (plus_none c.posted) (plus_none c.split) (plus_none c.merged)

plus_then : (n x y : ℕ) → n + x + y ≡ n + (x + y)
plus_then n x y = omega arith

pub added_then : (c x y : TidyCounts) → added (added c x) y ≡ added c (added x y)
added_then c x y = same_counts (added (added c x) y) (added c (added x y)) (plus_then c.grown x.grown y.grown) (plus_then c.posted x.posted y.posted) (plus_then c.split x.split y.split) (plus_then c.merged x.merged y.merged)

pub operations_then : (xs ys : List Event) → operations_in (xs ++ ys) ≡ added (operations_in xs) (operations_in ys)
operations_then xs ys =
    same_counts (operations_in (xs ++ ys)) (added (operations_in xs) (operations_in ys))
    (sum_by-append (λ (e : Event). cond (is_growth e) 1 0) xs ys)
    (sum_by-append (λ (e : Event). cond (is_posting e) 1 0) xs ys)
    (sum_by-append (λ (e : Event). cond (is_split e) 1 0) xs ys)
    (sum_by-append (λ (e : Event). cond (is_merge e) 1 0) xs ys)

-- what was added to counts is one
less : (n x : ℕ) → n ≤ n + x
less n x = omega arith

pub at_most_added : (c x : TidyCounts) → AreAtMost c (added c x)
at_most_added c x = record { grown = less c.grown x.grown; posted = less c.posted x.posted; split = less c.split x.split; merged = less c.merged x.merged }

same_rest : (n x y z : ℕ) → z ≡ n + x → z ≡ n + y → x ≡ y
same_rest n x y z one two = omega (arith, one, two)

pub same_added : (c x y all : TidyCounts) → all ≡ added c x → all ≡ added c y → x ≡ y
same_added c x y all one two =
    same_counts x y
    (same_rest c.grown x.grown y.grown all.grown (ap (λ (t : TidyCounts). t.grown) one) (ap (λ (t : TidyCounts). t.grown) two))
    (same_rest c.posted x.posted y.posted all.posted (ap (λ (t : TidyCounts). t.posted) one) (ap (λ (t : TidyCounts). t.posted) two))
    (same_rest c.split x.split y.split all.split (ap (λ (t : TidyCounts). t.split) one) (ap (λ (t : TidyCounts). t.split) two))
    (same_rest c.merged x.merged y.merged all.merged (ap (λ (t : TidyCounts). t.merged) one) (ap (λ (t : TidyCounts). t.merged) two))
