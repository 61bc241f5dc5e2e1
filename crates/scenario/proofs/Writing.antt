-- Lines that are written piece by piece.
use Rattle.std.proofs.Common.{ℕ, ◌+◌, List, [], ◌++◌, take, Option, Some, None, Result, Ok, Err, length, refl, sym, ◌∙◌, arith, append-nil, length-append}
use Rattle.std.proofs.Math.Seq.{take-append-add}
use Rattle.std.proofs.lemmas.List.{take-append-le}
use Rattle.std.specs.Io.KnownBytes.{Appends}
use Rattle.std.proofs.KnownBytes.{Appends-trans}
use Rattle.scenario.specs.Pieces.{Broke, Writes, Wrote}

module _ {E : Type 0} (written : E → Option (List ℕ)) (faults : E → ℕ) where
  abbrev Done : E → E → List ℕ → Type 0
  Done old new bytes = Wrote (written old) (written new) (faults old) (faults new) bytes

  abbrev Cut : E → E → List ℕ → Type 0
  Cut old new bytes = Broke (written old) (written new) (faults old) (faults new) bytes

  pub wrote_nothing : (old : E) → Done old old []
  wrote_nothing old = record { wrote = same (written old); sound = refl } where
    same : (bytes : Option (List ℕ)) → Appends bytes bytes []
    same None = tt
    same (Some xs) = sym (append-nil xs)

  pub wrote_more : (old mid new : E) (xs ys : List ℕ) → Done old mid xs → Done mid new ys → Done old new (xs ++ ys)
  wrote_more old mid new xs ys first second = record {
    wrote = Appends-trans (written old) (written mid) (written new) xs ys first.wrote second.wrote;
    sound = second.sound ∙ first.sound;
  }

  -- the first piece broke
  pub broke_first : (old new : E) (xs ys : List ℕ) → Cut old new xs → Cut old new (xs ++ ys)
  broke_first old new xs ys broke = record {
    count = broke.count;
    within = omega (arith, broke.within, length-append xs ys);
    wrote = rw (take-append-le broke.count xs ys broke.within) broke.wrote;
    fails = broke.fails;
  }

  -- a later piece broke
  pub broke_later : (old mid new : E) (xs ys : List ℕ) → Done old mid xs → Cut mid new ys → Cut old new (xs ++ ys)
  broke_later old mid new xs ys first broke = record {
    count = length xs + broke.count;
    within = omega (arith, broke.within, length-append xs ys);
    wrote = rw (take-append-add xs ys broke.count) (Appends-trans (written old) (written mid) (written new) xs (take broke.count ys) first.wrote broke.wrote);
    fails = rw first.sound at broke.fails;
  }

  -- the pieces that follow are written, or one of them breaks
  pub writes_more : {X : Type 0} (old mid new : E) (r : Result (Unit {0}) X) (xs ys : List ℕ)
      → Done old mid xs → Writes written faults mid new r ys → Writes written faults old new r (xs ++ ys)
  writes_more old mid new (Ok u) xs ys first second = wrote_more old mid new xs ys first second
  writes_more old mid new (Err e) xs ys first second = broke_later old mid new xs ys first second
