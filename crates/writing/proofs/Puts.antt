-- Laws of bytes put into a list: byte by byte, and bytes after bytes. Assumes nothing.
use mathlib.Core.Path.{◌≡◌, refl, ap, sym, ◌∙◌}
use mathlib.Core.List.{List, [], ◌∷◌, ◌++◌}
use Prim.Native.Nat.{ℕ, suc, ◌+◌, ◌≤◌}
use native.Mathlib.Omega.{arith}
use lib.ListN.{length, set, length-append}
use lib.Seq.{sets, set_comm}
use borrow.Rule.Slice.PartMut.{put_mid}
use Rattle.std.proofs.Common.{take, append_assoc}
use Rattle.std.proofs.lemmas.List.Edits.{sets-eq, paste_all}
use Rattle.std.proofs.lemmas.Slice.{put_mid-paste}
use Rattle.writing.specs.Put.{Put, SameLent, Puts}
use Rattle.writing.specs.declared.writer.Writer.{Writer}

-- bytes copied over a part of the list as long as they are
pub sets_at_once : (out : List ℕ) (at : ℕ) (bytes : List ℕ) (room : ℕ) (copied : List ℕ) → copied ≡ bytes → length bytes ≡ room
    → at + length bytes ≤ length out → put_mid at room out copied ≡ sets out at bytes
sets_at_once out at bytes room copied e n h =
    put_mid-paste at room out copied bytes (length bytes) e n refl
    ∙ (paste_all out at bytes (length bytes) refl ∙ sym (sets-eq bytes out at h ∙ append_assoc (take at out) bytes _))

pub sets_more : (l a b : List ℕ) (i : ℕ) → sets (sets l i a) (i + length a) b ≡ sets l i (a ++ b)
sets_more l [] b i = let e : i + 0 ≡ i = omega arith in rw e refl
sets_more l (x ∷ a) b i = let e : i + suc (length a) ≡ suc i + length a = omega arith in rw e (sets_more (set l i x) a b (suc i))

-- a store past the place of what is put may come first
pub sets_after : (a l : List ℕ) (i p d : ℕ) → i + length a ≤ p → sets (set l p d) i a ≡ set (sets l i a) p d
sets_after [] l i p d h = refl
sets_after (x ∷ a) l i p d h =
    ap (λ (m : List ℕ). sets m (suc i) a) (set_comm l p i d x (λ e. omega arith)) ∙ sets_after a (set l i x) (suc i) p d (omega arith)

pub same_then : {w v u : Writer} → SameLent w v → SameLent v u → SameLent w u
same_then p q = record { name = q.name ∙ p.name; long = q.long ∙ p.long }

-- what is put, then what is put after it
pub put_then : {l : List ℕ} {i : ℕ} {a m : List ℕ} {j : ℕ} {b n : List ℕ} {k : ℕ} → Put l i a m j → Put m j b n k → Put l i (a ++ b) n k
put_then {l} {i} {a} {m} {j} {b} p q = record {
  list = q.list ∙ (rw (p.list, p.place) (sets_more l a b i));
  place = omega (arith, p.place, q.place, length-append a b);
}

-- .. by a writer
pub then : {w : Writer} {a : List ℕ} {v : Writer} {b : List ℕ} {u : Writer} → Puts w a v → Puts v b u → Puts w (a ++ b) u
then p q = record { written = put_then p.written q.written; same = same_then p.same q.same }
