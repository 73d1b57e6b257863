-- What settings that stand give, as bounds, for the functions behind the check.
use Rattle.std.specs.Prelude.{◌≤◌}
use Rattle.rules.specs.Sizes.{bits}
use Rattle.rules.specs.Types.{Settings}

pub record Sized (s : Settings) : Type 0 where
  pub n_least : 1 ≤ s.n
  pub n_most : s.n ≤ 16
  pub t_most : s.t ≤ 16
  pub b_least : 4 ≤ bits s
  pub b_most : bits s ≤ 48
  pub w_least : 1 ≤ s.w
  pub w_most : s.w ≤ 4
