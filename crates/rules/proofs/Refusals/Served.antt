-- A board that passes 1 to 4 can be served for the process: what the code behind these checks needs. Assumes nothing.
use mathlib.Core.Path.{◌≡◌}
use mathlib.Core.Bool.{true}
use mathlib.Core.List.{List}
use Prim.Native.Nat.{ℕ, ◌≤◌, ◌<◌}
use lib.ListN.{length}
use Rattle.rules.specs.Bounds.{Sized}
use Rattle.rules.specs.GoodForm.{process_fits, open_fits}
use Rattle.rules.specs.Processes.{process_at}
use Rattle.rules.specs.Refusals.{sizes_check, process_check}
use Rattle.rules.specs.Sizes.{words_used}
use Rattle.rules.specs.declared.Board.{Board}
use Rattle.std.specs.Prelude.{Ok}
use Rattle.rules.specs.declared.Settings.{Settings}
use Rattle.rules.proofs.Refusals.Checked.{stands, accepted}
use Rattle.rules.proofs.GoodForm.Held.{clauses}
use Rattle.rules.proofs.GoodForm.Keeps.{process_fits_lem}
use Rattle.rules.proofs.Sizes.Sized.{sized}

-- 1 and 2 are passed
pub sizes_served : (s : Settings) (words : List ℕ) → sizes_check s (length words) ≡ Ok tt → Sized s × (words_used s ≤ length words)
sizes_served s words e = let both = stands s words e in (sized s both.settings, both.room)

pub record Served (board : Board) (me : ℕ) (words : List ℕ) : Type 0 where
  pub sizes : Sized board.settings
  pub used : words_used board.settings ≤ length words
  pub known : me < board.settings.n
  pub process : process_fits board.settings (process_at board me) ≡ true
  pub sequences : open_fits board.settings (process_at board me).opened ≡ true

pub served : (board : Board) (me : ℕ) (words : List ℕ) → process_check board me words ≡ Ok tt → Served board me words
served board me words e =
    let all = accepted board me words e in
    let fits = process_fits_lem board words all.good me all.mine in
    record {
      sizes = sized board.settings all.sizes.settings;
      used = all.sizes.room;
      known = all.mine;
      process = fits;
      sequences = (clauses board.settings (process_at board me) fits).sequences;
    }
