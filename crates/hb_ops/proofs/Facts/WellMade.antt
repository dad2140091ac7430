-- A page that keeps the rules of a page alone breaks none.
use Rattle.std.proofs.Common.{ℕ, inl, inr}
use Rattle.hb_frag.specs.declared.pages.LivePage.{LivePage}
use Rattle.hb_layout.specs.declared.meta.Meta.{Meta}
use Rattle.hb_ops.specs.Sound.{BreaksFirst, FitsFile}

pub not_broken : (rule : ℕ) (page : LivePage) (meta : Meta) → BreaksFirst rule page meta → FitsFile meta page → ⊥
not_broken rule page meta (inl three) fits = three.1 fits.fits
not_broken rule page meta (inr (inl four)) fits = four.2 fits.well_cut
not_broken rule page meta (inr (inr (inl five))) fits = five.3 fits.filled
not_broken rule page meta (inr (inr (inr (inl six)))) fits = six.4 fits.in_order
not_broken rule page meta (inr (inr (inr (inr ten)))) fits = ten.5 fits.normal
