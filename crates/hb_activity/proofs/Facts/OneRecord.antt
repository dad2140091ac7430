-- Records in the order of their points: one of them is of a point, and a page in order has one record of it.
use Rattle.std.proofs.Common.{◌≡◌, ℕ, List, sym, ap, ◌∙◌}
use Rattle.std.specs.List.{slice_get}
use Rattle.hb_lemmas.proofs.Lists.{place_member}
use Rattle.hb_space.specs.declared.records.Record.{Record}
use Rattle.hb_frag.specs.declared.leaves.Leaf.TheVariants.{Records}
use Rattle.hb_frag.specs.declared.pages.LivePage.{LivePage}
use Rattle.hb_ops.proofs.Facts.Opened.{first_has, same_records}
use Rattle.hb_frag.specs.Leaves.{leaves_of}
use Rattle.hb_frag.specs.Rules.{AreInOrder, IsInOrder}
use Rattle.hb_ops.specs.Standing.{StandsThere}
use Rattle.hb_frag.proofs.Facts.RisingRecords.{one_among, rises}

pub one_stands : (page : LivePage) (p : List ℕ) (r s : Record) → AreInOrder page → StandsThere page p r → StandsThere page p s → r ≡ s
one_stands page p r s order a b =
    let records = same_records page p a.records b.records a.area b.area a.leaf b.leaf in
    let up = (first_has IsInOrder p (leaves_of page.frag page.area) (record { leaf = Records b.records; area = b.area }) b.leaf order).rising in
    one_among b.records r s (rises b.records up) (place_member b.records a.place r (ap (λ (l : List Record). slice_get l a.place) (sym records) ∙ a.among)) (place_member b.records b.place s b.among) (a.key ∙ sym b.key)
