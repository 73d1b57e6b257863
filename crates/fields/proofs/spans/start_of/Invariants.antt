-- The invariant of `start_of`: the part asked for starts where part `left` of what begins at i does.
use Prim.Native.Nat.{◌+◌}
use mathlib.Core.Path.{◌≡◌}
use lib.ListN.{drop}
use Rattle.fields.specs.Spans.{start_of}
use Rattle.fields.proofs.spans.start_of.Given as goal

abbrev pub invariant-loop-i : goal.invariant-loop-i
invariant-loop-i l = l.i + start_of (drop l.i l.inside) l.left ≡ start_of l.inside l.k
