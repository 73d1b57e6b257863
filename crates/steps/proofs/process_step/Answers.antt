-- `process_step` meets its contract: each place has its function, which may be called there, and a step is that of its
-- place. Assumes nothing.
use mathlib.Core.Path.{◌≡◌, refl, ap}
use mathlib.Core.Bool.{true}
use Prim.Native.Nat.{ℕ, ◌≤◌, ◌<◌}
use borrow.Author.Rules.{rules}
use Rattle.rules.specs.Bounds.{Sized}
use Rattle.rules.specs.GoodForm.{process_fits}
use Rattle.rules.specs.Sizes.{words_used}
use Rattle.rules.specs.declared.Answered.{Answered}
use Rattle.rules.specs.declared.Process.{Process}
use Rattle.rules.specs.declared.Settings.{Settings}
use Rattle.steps.proofs.Places as places
use Rattle.steps.proofs.process_step.Goals as goal

-- what is known at the start
ready : {s : Settings} {p : Process} {me n : ℕ}
    → Sized s × (words_used s ≤ n) × (me < s.n) × (process_fits s p ≡ true) → places.Ready s p me n
ready known = record { sized = known.0; used = known.1; own = known.2; fits = known.3 }

pub load_reads_word-requires : goal.load_reads_word-requires
load_reads_word-requires c = places.load_reads_word_lem (ready c.requires) _ c.in-LoadReadsWord.is

pub validate_reads_word-requires : goal.validate_reads_word-requires
validate_reads_word-requires c = places.validate_reads_word_lem (ready c.requires) _ c.in-ValidateReadsWord.is

pub store_swaps_word-requires : goal.store_swaps_word-requires
store_swaps_word-requires c = places.store_swaps_word_lem (ready c.requires) _ c.in-StoreSwapsWord.is

pub load_reads_header-requires : goal.load_reads_header-requires
load_reads_header-requires c = places.load_reads_header_lem (ready c.requires) _ c.in-LoadReadsHeader.is

pub validate_reads_header-requires : goal.validate_reads_header-requires
validate_reads_header-requires c = places.validate_reads_header_lem (ready c.requires) _ c.in-ValidateReadsHeader.is

pub store_reads_header-requires : goal.store_reads_header-requires
store_reads_header-requires c = places.store_reads_header_lem (ready c.requires) _ c.in-StoreReadsHeader.is

pub store_announces-requires : goal.store_announces-requires
store_announces-requires c =
    let known = places.store_announces_lem (ready c.requires) _ _ _ c.in-StoreAnnounces.is in
    (known.0, known.1, search rules, known.3)

pub store_swaps_header-requires : goal.store_swaps_header-requires
store_swaps_header-requires c =
    let known = places.store_swaps_header_lem (ready c.requires) _ _ c.in-StoreSwapsHeader.is in
    (known.0, known.1, search rules, known.3)

pub reads_segment-requires : goal.reads_segment-requires
reads_segment-requires c = places.reads_segment_lem (ready c.requires) _ c.in-ReadsSegment.is

pub reads_announced-requires : goal.reads_announced-requires
reads_announced-requires c = places.reads_announced_lem (ready c.requires) _ _ c.in-ReadsAnnounced.is

pub swaps_segment-requires : goal.swaps_segment-requires
swaps_segment-requires c = places.swaps_segment_lem (ready c.requires) _ _ _ c.in-SwapsSegment.is

pub reads_segment_again-requires : goal.reads_segment_again-requires
reads_segment_again-requires c = places.reads_segment_again_lem (ready c.requires) _ c.in-ReadsSegmentAgain.is

pub reads_header-requires : goal.reads_header-requires
reads_header-requires c = places.reads_header_lem (ready c.requires) _ _ c.in-ReadsHeader.is

pub returns-in-Idle : goal.returns-in-Idle
returns-in-Idle c =
    places.step_from_lem c.args.s c.args.p c.args.me c.args.mem.now c.in-Idle.is
    (ap (λ (r : Answered Process). (r, c.args.mem.now)) c.refusing.ensures)

pub returns-in-LoadReadsWord : goal.returns-in-LoadReadsWord
returns-in-LoadReadsWord c =
    places.read_from c.args.s c.args.p c.args.me c.args.mem.now c.in-LoadReadsWord.is (λ s p me words. refl)
    c.load_reads_word.ensures

pub returns-in-ValidateReadsWord : goal.returns-in-ValidateReadsWord
returns-in-ValidateReadsWord c =
    places.read_from c.args.s c.args.p c.args.me c.args.mem.now c.in-ValidateReadsWord.is (λ s p me words. refl)
    c.validate_reads_word.ensures

pub returns-in-StoreSwapsWord : goal.returns-in-StoreSwapsWord
returns-in-StoreSwapsWord c =
    places.step_from_lem c.args.s c.args.p c.args.me c.args.mem.now c.in-StoreSwapsWord.is c.store_swaps_word.ensures

pub returns-in-LoadReadsHeader : goal.returns-in-LoadReadsHeader
returns-in-LoadReadsHeader c =
    places.read_from c.args.s c.args.p c.args.me c.args.mem.now c.in-LoadReadsHeader.is (λ s p me words. refl)
    c.load_reads_header.ensures

pub returns-in-ValidateReadsHeader : goal.returns-in-ValidateReadsHeader
returns-in-ValidateReadsHeader c =
    places.read_from c.args.s c.args.p c.args.me c.args.mem.now c.in-ValidateReadsHeader.is (λ s p me words. refl)
    c.validate_reads_header.ensures

pub returns-in-StoreReadsHeader : goal.returns-in-StoreReadsHeader
returns-in-StoreReadsHeader c =
    places.read_from c.args.s c.args.p c.args.me c.args.mem.now c.in-StoreReadsHeader.is (places.store_only_reads _)
    c.store_reads_header.ensures

pub returns-in-StoreAnnounces : goal.returns-in-StoreAnnounces
returns-in-StoreAnnounces c =
    places.step_from_lem c.args.s c.args.p c.args.me c.args.mem.now c.in-StoreAnnounces.is c.store_announces.ensures

pub returns-in-StoreSwapsHeader : goal.returns-in-StoreSwapsHeader
returns-in-StoreSwapsHeader c =
    places.step_from_lem c.args.s c.args.p c.args.me c.args.mem.now c.in-StoreSwapsHeader.is c.store_swaps_header.ensures

pub returns-in-ReadsSegment : goal.returns-in-ReadsSegment
returns-in-ReadsSegment c =
    places.read_from c.args.s c.args.p c.args.me c.args.mem.now c.in-ReadsSegment.is (places.segment_only_read _)
    c.reads_segment.ensures

pub returns-in-ReadsAnnounced : goal.returns-in-ReadsAnnounced
returns-in-ReadsAnnounced c =
    places.read_from c.args.s c.args.p c.args.me c.args.mem.now c.in-ReadsAnnounced.is (λ s p me words. refl)
    c.reads_announced.ensures

pub returns-in-SwapsSegment : goal.returns-in-SwapsSegment
returns-in-SwapsSegment c =
    places.step_from_lem c.args.s c.args.p c.args.me c.args.mem.now c.in-SwapsSegment.is c.swaps_segment.ensures

pub returns-in-ReadsSegmentAgain : goal.returns-in-ReadsSegmentAgain
returns-in-ReadsSegmentAgain c =
    places.read_from c.args.s c.args.p c.args.me c.args.mem.now c.in-ReadsSegmentAgain.is (λ s p me words. refl)
    c.reads_segment_again.ensures

pub returns-in-ReadsHeader : goal.returns-in-ReadsHeader
returns-in-ReadsHeader c =
    places.read_from c.args.s c.args.p c.args.me c.args.mem.now c.in-ReadsHeader.is (places.header_only_read _ _)
    c.reads_header.ensures
