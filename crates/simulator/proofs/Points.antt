-- From one point to another: nothing, two stretches, room made for a row, and bytes of a chunk fed. Assumes nothing.
use Prim.Native.Nat.{ℕ, ◌+◌, ◌-◌, ◌≤◌, ◌<◌}
use native.Mathlib.Omega.{arith}
use mathlib.Core.Path.{◌≡◌, refl, sym, ap, ◌∙◌, subst}
use mathlib.Core.Bool.{Bool, true, false}
use mathlib.Core.List.{List, [], ◌++◌, append-nil}
use borrow.Author.Tests.{ltb-false}
use lib.Dec.{ltb}
use lib.ListN.{length, take, drop, length-append}
use lib.Seq.{length-take-le}
use Rattle.printout.specs.Writing.{longest_row}
use Rattle.writing.specs.declared.writer.Writer.{Writer}
use Rattle.schedule.specs.declared.Fed.{Fed}
use Rattle.schedule.specs.Feeding.{Feeding, feeding, feeding_to, feed_of}
use Rattle.schedule.specs.Feeds.{Feeds}
use Rattle.schedule.specs.Longest.{longest_printout, may_hold}
use Rattle.schedule.specs.WholeInput.{Takes, output}
use Rattle.schedule.proofs.Callers.{fed_grown}
use Rattle.schedule.proofs.Longest.{fed_no_more}
use Rattle.schedule.proofs.Takes.{takes_none, takes_both, takes_flushed, takes_on, advances}
use Rattle.simulator.specs.declared.output.Output.{Output}
use Rattle.simulator.specs.Outputs.{RoomMade, MakesRoom, Counts}
use Rattle.simulator.specs.Points.{Point, point, feeding_at, Stands, Taken, TakesChunk}
use Rattle.simulator.proofs.Outputs.{counts_none, counts_both, flush_counts, flush_at_most}

pub taken_none : (p : Point) → Taken p [] p
taken_none p = record { written = []; takes = takes_none (feeding_at p); counts = counts_none p.held }

pub taken_both : (p q r : Point) (first second : List ℕ) → Taken p first q → Taken q second r → Taken p (first ++ second) r
taken_both p q r first second a b =
    record {
      written = a.written ++ b.written;
      takes = takes_both (feeding_at p) (feeding_at q) (feeding_at r) first second a.written b.written a.takes b.takes;
      counts = subst (λ (n : ℕ). Counts p.held n r.held) (sym (length-append a.written b.written))
          (counts_both p.held q.held r.held _ _ a.counts b.counts);
    }

-- what waits can be written out
pub can_flush : (p : Point) → Stands p → (p.held.len ≤ length p.out) × (p.held.written + p.held.len ≤ longest_printout)
unfolding may_hold
can_flush p stands = (stands.within, omega (arith, stands.bounded))

-- the same with another output
abbrev pub with_output : Point → Output → Point
with_output p o = point p.session p.line p.words p.out o

-- room made for another row
module _ (p : Point) (stands : Stands p) (room : Output) (made : MakesRoom (length p.out) p.held room) where
  pub room_taken : Taken p [] (with_output p room)
  room_taken = go (ltb (length p.out - p.held.len) longest_row) made
    where
      go : (full : Bool) → RoomMade full p.held room → Taken p [] (with_output p room)
      go true k =
          record {
            written = output (feeding_at p);
            takes = subst (λ (n : ℕ). Takes (feeding_at p) [] (output (feeding_at p)) (feeding p.session p.line p.words p.out n)) (sym k.empty)
                (takes_flushed (feeding_at p));
            counts = subst (λ (n : ℕ). Counts p.held n room) (sym (length-take-le p.held.len p.out stands.within))
                (flush_counts p.held room k);
          }
      go false k = subst (λ (o : Output). Taken p [] (with_output p o)) (sym k) (taken_none p)

  pub room_stands : Stands (with_output p room)
  unfolding may_hold
  room_stands = go (ltb (length p.out - p.held.len) longest_row) made
    where
      go : (full : Bool) → RoomMade full p.held room → Stands (with_output p room)
      go true k =
          record {
            ready = stands.ready;
            within = omega (arith, k.empty);
            room = stands.room;
            bounded = omega (arith, stands.bounded, k.empty, flush_at_most p.held room k);
          }
      go false k = subst (λ (o : Output). Stands (with_output p o)) (sym k) stands

  pub room_free : longest_row ≤ length p.out - room.len
  room_free = go (ltb (length p.out - p.held.len) longest_row) refl made
    where
      go : (full : Bool) → ltb (length p.out - p.held.len) longest_row ≡ full → RoomMade full p.held room
          → longest_row ≤ length p.out - room.len
      go true e k = omega (arith, stands.room, k.empty)
      go false e k = omega (arith, ltb-false (length p.out - p.held.len) longest_row e, ap (λ (o : Output). o.len) k)

  -- bytes of a chunk fed from there, into an output that holds what waits
  module _ (chunk : List ℕ) (at : ℕ) (out : Writer) (lent : out.bytes.now ≡ p.out) (same : out.len ≡ room.len) (fed : Fed) (line words : List ℕ)
      (out_after : Writer) (feeds : Feeds p.session chunk at p.line p.words out fed line words out_after) where
    after : Feeding
    after = feeding_to fed.session line words out_after

    fed_here : ◌≡◌ {A = Feeding × List ℕ} (after, drop fed.next chunk) (feed_of (feeding_at (with_output p room)) (drop at chunk))
    unfolding after
    fed_here =
        feeds.fed
        ∙ ap (λ (l : List ℕ). feed_of (feeding p.session p.line p.words l out.len) (drop at chunk)) lent
        ∙ ap (λ (n : ℕ). feed_of (feeding p.session p.line p.words p.out n) (drop at chunk)) same

    pub rows_put : room.len ≤ out_after.len
    unfolding after
    rows_put = (fed_grown (feeding_at (with_output p room)) after (drop at chunk) (drop fed.next chunk) fed_here room_stands.within).1

    pub forward : at < length chunk → at < fed.next
    forward more = advances (feeding_at (with_output p room)) after chunk at fed.next feeds.within fed_here room_free more

    -- the output with the rows that were put
    rows : Output
    rows = record { len = out_after.len; written = room.written; failed = room.failed }

    rows_taken : (start : Point) → at ≤ length chunk → Taken start (take at chunk) p
        → Taken start (take fed.next chunk) (point fed.session line words out_after.bytes.now rows)
    unfolding after rows
    rows_taken start within so_far =
        let roomy = subst (λ (l : List ℕ). Taken start l (with_output p room)) (append-nil (take at chunk))
        (taken_both start p (with_output p room) (take at chunk) [] so_far room_taken) in
        record {
          written = roomy.written;
          takes = takes_on (feeding_at (with_output p room)) after chunk at fed.next feeds.within fed_here (feeding_at start) roomy.written within
              roomy.takes;
          counts = record { unfailed = roomy.counts.unfailed; counted = roomy.counts.counted };
        }

    rows_stand : Stands (point fed.session line words out_after.bytes.now rows)
    unfolding after rows
    rows_stand =
        let roomy = feeding_at (with_output p room) in
        record {
          ready = feeds.ready;
          within = (fed_grown roomy after (drop at chunk) (drop fed.next chunk) fed_here room_stands.within).0;
          room = omega (arith, stands.room, feeds.same.long, ap (λ (l : List ℕ). length l) lent);
          bounded = omega (arith, room_stands.bounded, fed_no_more roomy after (drop at chunk) (drop fed.next chunk) fed_here);
        }

    -- and the lent bytes are had back
    pub goes_on_lem : (start : Point) → at ≤ length chunk → (back : List ℕ) → back ≡ out_after.bytes.now → (grown : Output)
        → grown ≡ record { len = out_after.len; written = room.written; failed = room.failed } → Taken start (take at chunk) p
        → TakesChunk start (take fed.next chunk) (point fed.session line words back grown)
    unfolding rows
    goes_on_lem start within back given grown e so_far =
        subst (λ (l : List ℕ). TakesChunk start (take fed.next chunk) (point fed.session line words l grown)) (sym given)
        (subst (λ (o : Output). TakesChunk start (take fed.next chunk) (point fed.session line words out_after.bytes.now o)) (sym e)
        (record { taken = rows_taken start within so_far; stands = rows_stand }))
