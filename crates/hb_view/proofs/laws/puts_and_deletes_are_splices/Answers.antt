use Rattle.std.proofs.Common.{refl}
use Rattle.hb_ops.proofs.Facts.Opened.{rising_at}
use Rattle.hb_view.proofs.laws.puts_and_deletes_are_splices.Goals as goal

pub returns-clause-puts : goal.returns-clause-puts
returns-clause-puts c = λ meta page rec fits. (
  record {
    well_cut = fits.made.well_cut;
    rising = record {
      records = fits.absent.records;
      area = fits.absent.area;
      leaf = fits.absent.leaf;
      keeps = rising_at page rec.key fits.absent.records fits.absent.area fits.made.in_order fits.absent.leaf;
    };
  },
  refl,
)

pub returns-clause-deletes : goal.returns-clause-deletes
returns-clause-deletes c = λ meta page point fits. (
  record {
    well_cut = fits.made.well_cut;
    rising = record {
      records = fits.there.records;
      area = fits.there.area;
      leaf = fits.there.leaf;
      keeps = rising_at page point fits.there.records fits.there.area fits.made.in_order fits.there.leaf;
    };
  },
  refl,
)
