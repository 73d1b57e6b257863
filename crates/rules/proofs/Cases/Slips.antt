-- What document 01's slips that look right get wrong and P1 to P10 do not show, by computation: a witness is the process
-- of the header just read; a store of kind many that answers no closes its sequence; one of the value already there moves the
-- tag; each variable and each segment is its own; a set-up clears the words used. Assumes nothing.
use mathlib.Core.Path.{◌≡◌, refl}
use mathlib.Core.List.{[], ◌∷◌, ◌++◌}
use Prim.Native.Nat.{ℕ}
use Rattle.rules.specs.Entry.{set_up_rule}
use Rattle.rules.specs.Runs.{begin, step, EventRow, rows}
use Rattle.rules.specs.Schedules.{settings, board, ll, sc, row, loaded, begun, busy, times, small}
use Rattle.rules.specs.Types.{NoOpenSequence, Value, Ok, Witness, Yes, No, Err, Store, One, Many}
use Rattle.rules.proofs.Cases.Computing.{schedule}

-- a load's answer of two values, where W is 2
abbrev loaded_two : ℕ → ℕ → ℕ → EventRow
loaded_two u v open' = row (Ok (Value (u ∷ v ∷ 0 ∷ 0 ∷ []))) open' (u ∷ v ∷ [])

pub record Slips : Type 0 where
  -- P8 with the processes changed over: the header that process 0 was given names 0, the one just read names 1. The
  -- sequence is open after the witness, so a store begins, answers no at its first step, and closes it
  pub witness : rows small
      (ll 1 0 ∷ step 1 ∷ step 1 ∷ step 1 ∷ ll 0 0 ∷ step 0
      ∷ sc 1 0 5 ∷ step 1 ∷ step 1 ∷ step 1 ∷ step 1 ∷ step 1 ∷ step 1 ∷ step 1
      ∷ step 0 ∷ step 0 ∷ sc 0 0 9 ∷ step 0 ∷ sc 0 0 9 ∷ [])
      ≡ begun 0 ∷ busy 1 ∷ busy 1 ∷ loaded 0 1 ∷ begun 0 ∷ busy 1
      ∷ begun 1 ∷ busy 1 ∷ busy 1 ∷ busy 1 ∷ busy 1 ∷ busy 1 ∷ busy 1 ∷ row (Ok Yes) 0 []
      ∷ busy 1 ∷ row (Ok (Witness 1)) 1 (1 ∷ []) ∷ begun 1 ∷ row (Ok No) 0 [] ∷ row (Err NoOpenSequence) 0 (7 ∷ []) ∷ []
  -- both load; both stand before the header's swap; process 1 swaps, so process 0's swap fails, answers no and closes
  pub failed_swap : rows small
      (ll 0 0 ∷ step 0 ∷ step 0 ∷ step 0 ∷ ll 1 0 ∷ step 1 ∷ step 1 ∷ step 1
      ∷ sc 0 0 5 ∷ step 0 ∷ step 0 ∷ sc 1 0 6 ∷ step 1 ∷ step 1 ∷ step 1 ∷ step 0 ∷ [])
      ≡ begun 0 ∷ busy 1 ∷ busy 1 ∷ loaded 0 1 ∷ begun 0 ∷ busy 1 ∷ busy 1 ∷ loaded 0 1
      ∷ begun 1 ∷ busy 1 ∷ busy 1 ∷ begun 1 ∷ busy 1 ∷ busy 1 ∷ busy 1 ∷ row (Ok No) 0 [] ∷ []
  -- P9 of kind many: a store of the value already there moves the tag, so the other store's first test says no
  pub equal_value : rows small
      (ll 0 0 ∷ step 0 ∷ step 0 ∷ step 0 ∷ ll 1 0 ∷ step 1 ∷ step 1 ∷ step 1
      ∷ sc 0 0 0 ∷ step 0 ∷ step 0 ∷ step 0 ∷ sc 1 0 0 ∷ step 1 ∷ [])
      ≡ begun 0 ∷ busy 1 ∷ busy 1 ∷ loaded 0 1 ∷ begun 0 ∷ busy 1 ∷ busy 1 ∷ loaded 0 1
      ∷ begun 1 ∷ busy 1 ∷ busy 1 ∷ busy 1 ∷ begun 1 ∷ row (Ok No) 0 [] ∷ []
  -- each variable is its own: of two, the second is stored to, and the first stays 0. With two segments a load takes five
  -- steps and a store twelve
  pub second_word : rows (board 2 One 2 48 1) (ll 0 1 ∷ step 0 ∷ sc 0 1 7 ∷ step 0 ∷ ll 1 1 ∷ step 1 ∷ ll 1 0 ∷ step 1 ∷ [])
      ≡ begun 0 ∷ loaded 0 1 ∷ begun 1 ∷ row (Ok Yes) 0 [] ∷ begun 0 ∷ loaded 7 1 ∷ begun 1 ∷ loaded 0 2 ∷ []
  pub second_variable : rows (board 2 Many 2 4 2)
      (ll 0 1 ∷ times 5 (step 0 ∷ []) ++ (begin 0 (Store 1) (5 ∷ 6 ∷ 0 ∷ 0 ∷ []) ∷ times 12 (step 0 ∷ []))
      ++ (ll 1 1 ∷ times 5 (step 1 ∷ [])) ++ (ll 1 0 ∷ times 5 (step 1 ∷ [])))
      ≡ begun 0 ∷ times 4 (busy 1 ∷ []) ++ (loaded_two 0 0 1 ∷ [])
      ++ (begun 1 ∷ times 11 (busy 1 ∷ []) ++ (row (Ok Yes) 0 [] ∷ []))
      ++ (begun 0 ∷ times 4 (busy 1 ∷ []) ++ (loaded_two 5 6 1 ∷ []))
      ++ (begun 1 ∷ times 4 (busy 2 ∷ []) ++ (loaded_two 0 0 2 ∷ []))
  -- a set-up over memory that is not 0 clears the words used, two of kind one and four of kind many, and no other
  pub set_up_one : (set_up_rule (settings 2 One 2 48 1) (7 ∷ 7 ∷ 7 ∷ 7 ∷ [])).1 ≡ 0 ∷ 0 ∷ 7 ∷ 7 ∷ []
  pub set_up_many : (set_up_rule (settings 2 Many 1 4 1) (7 ∷ 7 ∷ 7 ∷ 7 ∷ 7 ∷ 7 ∷ [])).1 ≡ 0 ∷ 0 ∷ 0 ∷ 0 ∷ 7 ∷ 7 ∷ []

pub ruled_out : Slips
unfolding schedule
ruled_out = record { witness = refl; failed_swap = refl; equal_value = refl; second_word = refl; second_variable = refl; set_up_one = refl; set_up_many = refl }
