-- A file with the records of one leaf changed: it is as sound as before.
use Rattle.std.proofs.Common.{◌≡◌, ℕ, List, Option, Some, refl, sym, subst}
use Rattle.hb_space.specs.declared.records.Record.{Record}
use Rattle.hb_frag.specs.declared.pages.LivePage.{LivePage}
use Rattle.hb_frag.specs.declared.pages.Page.TheVariants.{Live}
use Rattle.hb_ops.specs.declared.operations.Op.TheVariants.{Put, Del}
use Rattle.hb_ops.specs.Files.{FileState, live_page}
use Rattle.hb_ops.specs.Recording.{joined, page_with, without}
use Rattle.hb_ops.specs.Operations.{change_of, nth_read, with_page, with_changed_pages}
use Rattle.hb_ops.specs.LawsOfContents.{PutStaysSound, DelStaysSound}
use Rattle.hb_ops.specs.Sound.{FitsFile, IsSound}
use Rattle.hb_ops.proofs.Facts.Contents.{del_on, put_on}
use Rattle.hb_ops.proofs.Remade.{children_again, del_made, put_made, siblings_again}
use Rattle.hb_ops.proofs.Facts.OneChanged.{sound_again}

-- with a page whose leaf's records are changed, where that is well made
with_remade : (s : FileState) (id : ℕ) (page : LivePage) (p : List ℕ) (change : List Record → List Record) → live_page s id ≡ Some page → FitsFile s.meta (page_with p change page) → IsSound s → IsSound (record { meta = s.meta; pages = with_page id (Live (page_with p change page)) s.pages })
with_remade s id page p change live made sound =
    sound_again s id page (page_with p change page) live (record { level = refl; area = refl; siblings = siblings_again p change page.frag page.area }) made
    (λ name a has. sound.children id page name a live (children_again p change page.frag page.area name a has)) sound

pub put_stays_sound : PutStaysSound
put_stays_sound s id rec sound has allowed =
    let on = put_on id rec s.meta (live_page s id) (nth_read s (Put id rec) 1) (nth_read s (Put id rec) 2) allowed in
    let state : Option LivePage → FileState = λ o. let made = change_of (Put id rec) s.meta o (nth_read s (Put id rec) 1) (nth_read s (Put id rec) 2) in record { meta = made.meta; pages = with_changed_pages made.pages s.pages } in
    subst (λ (o : Option LivePage). IsSound (state o)) (sym on.1) (with_remade s id on.0 rec.key (joined rec) on.1 (put_made s.meta on.0 rec on.2) sound)

pub del_stays_sound : DelStaysSound
del_stays_sound s id point sound has allowed =
    let on = del_on id point s.meta (live_page s id) (nth_read s (Del id point) 1) (nth_read s (Del id point) 2) allowed in
    let state : Option LivePage → FileState = λ o. let made = change_of (Del id point) s.meta o (nth_read s (Del id point) 1) (nth_read s (Del id point) 2) in record { meta = made.meta; pages = with_changed_pages made.pages s.pages } in
    subst (λ (o : Option LivePage). IsSound (state o)) (sym on.1) (with_remade s id on.0 point (without point) on.1 (del_made s.meta on.0 point on.2) sound)
