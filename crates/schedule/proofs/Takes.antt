-- A caller's actions one after another: bytes offered, the output written out, two stretches joined; and actions that take
-- nothing. Assumes nothing.
use Prim.Native.Nat.{ℕ, ◌+◌, ◌-◌, ◌≤◌, ◌<◌}
use mathlib.Core.Path.{◌≡◌, refl, sym, ap, ◌∙◌, subst}
use mathlib.Core.Bool.{Bool, true, false, cond}
use mathlib.Core.List.{List, [], ◌∷◌, ◌++◌, append_assoc, append-nil}
use native.Mathlib.Omega.{arith}
use lib.ListN.{length, take, drop, length-drop, length-append}
use lib.Seq.{take-add, length-take-le}
use Rattle.printout.specs.Writing.{longest_row}
use Rattle.schedule.specs.Feeding.{Feeding, feed_of, is_full, take_byte, same_stage}
use Rattle.schedule.specs.WholeInput.{Action, offer, flush, Caller, output, act, acts, from, Takes}
use Rattle.schedule.proofs.FedOn.{has_room}
use Rattle.schedule.proofs.Feeding.{feed_full}
use Rattle.schedule.proofs.WholeInput.{left_most}

acts_then : (c : Caller) (before after : List Action) → acts c (before ++ after) ≡ acts (acts c before) after
unfolding acts
acts_then c [] after = refl
acts_then c (action ∷ before) after = acts_then (act c action) before after

-- what was read and written before stays before
abbrev later : List ℕ → List ℕ → Caller → Caller
later read written c = record { feeding = c.feeding; read = read ++ c.read; written = written ++ c.written }

act_later : (read written : List ℕ) (c : Caller) (action : Action) → act (later read written c) action ≡ later read written (act c action)
act_later read written c (offer bytes) =
    ap (λ (l : List ℕ). record { feeding = (feed_of c.feeding bytes).0; read = l; written = written ++ c.written })
    (append_assoc read c.read _)
act_later read written c flush =
    ap (λ (l : List ℕ). record {
      feeding = record { run = c.feeding.run; held = c.feeding.held; out = c.feeding.out; len = 0 };
      read = read ++ c.read;
      written = l;
    }) (append_assoc written c.written _)

acts_later : (read written : List ℕ) (c : Caller) (actions : List Action) → acts (later read written c) actions ≡ later read written (acts c actions)
unfolding acts
acts_later read written c [] = refl
acts_later read written c (action ∷ actions) =
    ap (λ (d : Caller). acts d actions) (act_later read written c action) ∙ acts_later read written (act c action) actions

pub takes_none : (f : Feeding) → Takes f [] [] f
unfolding acts
takes_none f = record { actions = []; leads = refl }

-- two stretches
pub takes_both : (f g h : Feeding) (first second one other : List ℕ) → Takes f first one g → Takes g second other h
    → Takes f (first ++ second) (one ++ other) h
takes_both f g h first second one other a b =
    record {
      actions = a.actions ++ b.actions;
      leads =
          acts_then (from f) a.actions b.actions
          ∙ ap (λ (c : Caller). acts c b.actions) a.leads
          ∙ ap (λ (l : List ℕ). acts (record { feeding = g; read = l; written = one }) b.actions) (sym (append-nil first))
          ∙ ap (λ (l : List ℕ). acts (record { feeding = g; read = first ++ []; written = l }) b.actions) (sym (append-nil one))
          ∙ acts_later first one (from g) b.actions
          ∙ ap (later first one) b.leads;
    }

-- the output written out
pub takes_flushed : (f : Feeding) → Takes f [] (output f) (record { run = f.run; held = f.held; out = f.out; len = 0 })
unfolding acts
takes_flushed f = record { actions = flush ∷ []; leads = refl }

-- bytes offered, of which some are left
takes_offered : (f after : Feeding) (bytes left : List ℕ) → ◌≡◌ {A = Feeding × List ℕ} (after, left) (feed_of f bytes)
    → Takes f (take (length bytes - length left) bytes) [] after
unfolding acts
takes_offered f after bytes left e =
    record {
      actions = offer bytes ∷ [];
      leads =
          sym (ap (λ (r : Feeding × List ℕ). record { feeding = r.0; read = take (length bytes - length r.1) bytes; written = [] }) e);
    }

-- where there is room for a row, a byte of those offered is taken
less_left : (f : Feeding) (bytes : List ℕ) → is_full f ≡ false → 0 < length bytes → length (feed_of f bytes).1 < length bytes
unfolding feed_of
less_left f [] room some = absurd (omega arith)
less_left f (byte ∷ bytes) room some = rw room (go (same_stage f.run (take_byte f byte).run) (left_most (take_byte f byte) bytes))
  where
    go : (same : Bool) → length (feed_of (take_byte f byte) bytes).1 ≤ length bytes
        → length (cond same (feed_of (take_byte f byte) bytes) (take_byte f byte, bytes)).1 < length (byte ∷ bytes)
    go true ih = omega arith
    go false ih = omega arith

-- a chunk, of which the bytes up to `at` are taken, and then those up to `next`
module _ (g after : Feeding) (chunk : List ℕ) (at next : ℕ) (most : next ≤ length chunk)
    (fed : ◌≡◌ {A = Feeding × List ℕ} (after, drop next chunk) (feed_of g (drop at chunk))) where
  left_of_chunk : length chunk - next ≡ length (feed_of g (drop at chunk)).1
  left_of_chunk = sym (length-drop next chunk) ∙ ap (λ (r : Feeding × List ℕ). length r.1) fed

  not_back : at ≤ length chunk → at ≤ next
  not_back within = omega (arith, left_of_chunk, left_most g (drop at chunk), length-drop at chunk)

  pub takes_on : (f : Feeding) (written : List ℕ) → at ≤ length chunk → Takes f (take at chunk) written g → Takes f (take next chunk) written after
  takes_on f written within so_far =
      let forward = not_back within in
      let count : length (drop at chunk) - length (drop next chunk) ≡ next - at = omega (arith, length-drop at chunk, length-drop next chunk) in
      let sum : at + (next - at) ≡ next = omega arith in
      subst (λ (l : List ℕ). Takes f (take next chunk) l after) (append-nil written)
      (subst (λ (l : List ℕ). Takes f l (written ++ []) after)
      (ap (λ (n : ℕ). take at chunk ++ take n (drop at chunk)) count ∙ sym (take-add at (next - at) chunk) ∙ ap (λ (n : ℕ). take n chunk) sum)
      (takes_both f g after (take at chunk) _ written [] so_far (takes_offered g after (drop at chunk) (drop next chunk) fed)))

  pub advances : longest_row ≤ length g.out - g.len → at < length chunk → at < next
  advances room more = omega (arith, left_of_chunk, less_left g (drop at chunk) (has_room g room) (omega (arith, length-drop at chunk)), length-drop at chunk)

-- where nothing is taken the run is as it was
offered_nothing : (f : Feeding) (bytes : List ℕ) → length bytes ≤ length (feed_of f bytes).1 → (feed_of f bytes).0 ≡ f
unfolding feed_of
offered_nothing f [] none = refl
offered_nothing f (byte ∷ bytes) none = go (is_full f) refl
  where
    go : (full : Bool) → is_full f ≡ full → (feed_of f (byte ∷ bytes)).0 ≡ f
    go true e = ap (λ (r : Feeding × List ℕ). r.0) (feed_full f (byte ∷ bytes) e)
    go false e = absurd (omega (arith, none, less_left f (byte ∷ bytes) e (omega arith)))

act_reads : (c : Caller) (action : Action) → length c.read ≤ length (act c action).read
act_reads c (offer bytes) = omega (arith, length-append c.read (take (length bytes - length (feed_of c.feeding bytes).1) bytes))
act_reads c flush = omega arith

acts_read : (c : Caller) (actions : List Action) → length c.read ≤ length (acts c actions).read
unfolding acts
acts_read c [] = omega arith
acts_read c (action ∷ actions) = omega (arith, act_reads c action, acts_read (act c action) actions)

act_still : (c : Caller) (action : Action) → length (act c action).read ≤ length c.read → (act c action).feeding.run ≡ c.feeding.run
act_still c (offer bytes) none =
    let count = length bytes - length (feed_of c.feeding bytes).1 in
    let taken = length-append c.read (take count bytes) in
    let counted = length-take-le count bytes (omega arith) in
    ap (λ (f : Feeding). f.run) (offered_nothing c.feeding bytes (omega (arith, none, taken, counted)))
act_still c flush none = refl

acts_still : (c : Caller) (actions : List Action) → length (acts c actions).read ≤ length c.read → (acts c actions).feeding.run ≡ c.feeding.run
unfolding acts
acts_still c [] none = refl
acts_still c (action ∷ actions) none =
    acts_still (act c action) actions (omega (arith, none, act_reads c action))
    ∙ act_still c action (omega (arith, none, acts_read (act c action) actions))

pub takes_nothing : (f after : Feeding) (bytes written : List ℕ) → length bytes ≡ 0 → Takes f bytes written after → after.run ≡ f.run
takes_nothing f after bytes written none takes =
    let nothing : length (acts (from f) takes.actions).read ≡ 0 = ap (λ (c : Caller). length c.read) takes.leads ∙ none in
    sym (ap (λ (c : Caller). c.feeding.run) takes.leads) ∙ acts_still (from f) takes.actions (omega (arith, nothing))
