-- What a page of level 0 has at a point is what the contents have.
use Rattle.std.proofs.Common.{◌≡◌, ◌≢◌, ℕ, zero, suc, ◌<◌, Bool, true, false, cond, List, [], ◌∷◌, ◌++◌, get_or, slice_get, Option, Some, sym, ap, ◌∙◌, arith}
use Rattle.std.specs.FinMap as finite
use Rattle.std.specs.Option.{option_or}
use Rattle.std.specs.Ordering.{eq_by_cmp}
use Rattle.std.proofs.lemmas.List.Elements.{recursion_from_All}
use Rattle.hb_space.specs.Points.{point_cmp}
use Rattle.hb_space.specs.declared.records.Record.{Record}
use Rattle.hb_ops.specs.Standing.{AbsenceIsContents, RecordsAreContents}
use Rattle.hb_ops.proofs.Facts.Contents.{around}
use Rattle.hb_ops.proofs.Facts.Finds.{absent, body_at, body-append, body-lacking, contents, get-contents}
use Rattle.hb_ops.proofs.Facts.Opened.{rising_at}
use Rattle.hb_space.proofs.Facts.PointOrder.{other_point, not_itself}
use Rattle.std.proofs.lemmas.Option.{slice_get_within, get_or_from_slice_get}
use Rattle.hb_lemmas.proofs.Orderings.{alike}
use Rattle.std.proofs.lemmas.Cmp.{nat_list_cmp_total}

-- the first record of a point has its body
first_body : (p : List ℕ) (records : List Record) (k : ℕ) (r : Record) → slice_get records k ≡ Some r → r.key ≡ p → ((i : ℕ) (d : Record) → i < k → (get_or records i d).key ≢ p) → body_at p records ≡ Some r.body
first_body p [] k r e is before = cc
first_body p (x ∷ xs) zero r e is before =
    let same : x ≡ r = cc in
    let hit : eq_by_cmp point_cmp p x.key ≡ true = alike nat_list_cmp_total p x.key (sym (ap (λ (r : Record). r.key) same ∙ is)) in
    ap (λ (b : Bool). cond b (Some x.body) (body_at p xs)) hit ∙ ap (λ (r : Record). Some r.body) same
first_body p (x ∷ xs) (suc k) r e is before =
    let miss : eq_by_cmp point_cmp p x.key ≡ false = other_point p x.key (λ same. before 0 x (omega arith) (sym same)) in
    ap (λ (b : Bool). cond b (Some x.body) (body_at p xs)) miss ∙ first_body p xs k r e is (λ i d lt. before (suc i) d (omega (arith, lt)))

pub records_are_contents : RecordsAreContents
records_are_contents s id page p r live made level others stands =
    let here = around s id p page stands.records stands.area live level made.well_cut made.in_order stands.leaf others in
    let rising = rising_at page p stands.records stands.area made.in_order stands.leaf in
    let before : (i : ℕ) (d : Record) → i < stands.place → (get_or stands.records i d).key ≢ p = λ i d lt same.
    let within = slice_get_within stands.records stands.place r stands.among in
    let at = get_or_from_slice_get stands.records stands.place r d stands.among in
    not_itself (get_or stands.records i d).key (get_or stands.records stands.place d).key (same ∙ sym (ap (λ (r : Record). r.key) at ∙ stands.key)) (rising i stands.place d lt within) in
    ap (λ (rs : List Record). finite.get (contents rs) p) here.is
    ∙ get-contents (here.before ++ (stands.records ++ here.after)) p
    ∙ body-append p here.before (stands.records ++ here.after)
    ∙ ap (λ (o : Option (List ℕ)). option_or o (body_at p (stands.records ++ here.after))) (body-lacking p here.before here.lack_before)
    ∙ body-append p stands.records here.after
    ∙ ap (λ (o : Option (List ℕ)). option_or o (body_at p here.after)) (first_body p stands.records stands.place r stands.among stands.key before)

pub absence_is_contents : AbsenceIsContents
absence_is_contents s id page p live made level others stands =
    let here = around s id p page stands.records stands.area live level made.well_cut made.in_order stands.leaf others in
    ap (λ (rs : List Record). finite.get (contents rs) p) here.is
    ∙ absent here.before stands.records here.after p here.lack_before here.lack_after (recursion_from_All (λ (r : Record). r.key ≢ p) stands.records stands.lack)
