-- A deed changes an account in two parts: what stands beside the marks, and the marks.
use Rattle.std.proofs.Common.{◌≡◌, ℕ, Bool, true, false, ◌-◌, ◌+◌, ◌<◌, cond, eqb, ltb, List, [], length, get_or, set, refl, sym, ap, ◌∙◌, arith, length-set, get_or-set_other, get_or-set_same}
use Rattle.quiet_core.specs.declared.deed.Deed.{Deed}
use Rattle.quiet_core.specs.declared.deed.Deed.TheVariants as deed
use Rattle.quiet_core.specs.Rows.{put, put_pair}
use Rattle.quiet_core.specs.Account.{Shape, scheduled, root, parent, Mark, free, fresh, reported, Account, nobody, account, mark, acks, owing}
use Rattle.quiet_core.specs.Step.{after, put_mark, reached}
use Rattle.quiet_core.specs.Noted.{noted, Roomy}
use Rattle.quiet_core.specs.Entries.{Alone, Enters, marked}

by_bool : (P : Bool → Type 0) → P true → P false → (b : Bool) → P b
by_bool P hit miss true = hit
by_bool P hit miss false = miss

module _ (t : Shape) (j x : ℕ) where
  -- settling looks at no mark
  reached_marks : (a : Account) (m k : List (List Mark)) → record (reached t j x (record a { marks = m })) { marks = k } ≡ record (reached t j x a) { marks = k }
  reached_marks a m k = let a' : Account = record a { marks = m } in
      by_bool (λ b. record (cond b (cond (eqb j (root t)) (record a' { at_root = true }) (record a' { duties = put false a'.duties j true })) a') { marks = k }
      ≡ record (cond b (cond (eqb j (root t)) (record a { at_root = true }) (record a { duties = put false a.duties j true })) a) { marks = k })
      (by_bool (λ b. record (cond b (record a' { at_root = true }) (record a' { duties = put false a'.duties j true })) { marks = k }
      ≡ record (cond b (record a { at_root = true }) (record a { duties = put false a.duties j true })) { marks = k })
      refl refl (eqb j (root t))) refl (eqb x 0)

  -- and changes none
  reached_keeps : (a : Account) → record (reached t j x a) { marks = a.marks } ≡ reached t j x a
  reached_keeps a = by_bool (λ b. record (cond b (cond (eqb j (root t)) (record a { at_root = true }) (record a { duties = put false a.duties j true })) a) { marks = a.marks }
      ≡ cond b (cond (eqb j (root t)) (record a { at_root = true }) (record a { duties = put false a.duties j true })) a)
      (by_bool (λ b. record (cond b (record a { at_root = true }) (record a { duties = put false a.duties j true })) { marks = a.marks }
      ≡ cond b (record a { at_root = true }) (record a { duties = put false a.duties j true })) refl refl (eqb j (root t)))
      refl (eqb x 0)

module _ (t : Shape) where
  pub noted_marks : (d : Deed) (x : ℕ) (a : Account) (m : List (List Mark)) → record (noted t d x (record a { marks = m })) { marks = a.marks } ≡ noted t d x a
  noted_marks (deed.Claim n) x a m = let a' : Account = record a { marks = m } in
      by_bool (λ b. record (cond b (put_mark a' n x fresh) (record a' { exhausted = put false a.exhausted n true })) { marks = a.marks }
      ≡ record (cond b (put_mark a n x fresh) (record a { exhausted = put false a.exhausted n true })) { marks = a.marks }) refl refl
      (ltb x (scheduled t n))
  noted_marks (deed.Raise n i k) x a m = refl
  noted_marks (deed.Post n i to k) x a m = refl
  noted_marks (deed.Done n i) x a m = reached_marks t n (x - 1) a (put_mark (record a { marks = m }) n i reported).marks a.marks ∙ sym (reached_marks t n (x - 1) a (put_mark a n i reported).marks a.marks)
  noted_marks (deed.Collect n) x a m = let a' : Account = record a { marks = m } in
      by_bool (λ b. record (cond b (record a' { collected = put 0 a.collected n 1 }) a') { marks = a.marks } ≡ record (cond b (record a { collected = put 0 a.collected n 1 }) a) { marks = a.marks }) refl refl (eqb x 0)
  noted_marks (deed.Look n i) x a m = refl
  noted_marks (deed.Ack n i k) x a m = reached_marks t n (x - k) (record a { acked = put_pair a.acked n i (acks a n i + k) }) m a.marks
  noted_marks (deed.Climb c) x a m = reached_marks t (parent t c) (x - 1) (record a { duties = put false a.duties c false }) m a.marks

  -- what stands beside the marks comes first, then the marks
  pub marked_noted : (d : Deed) (x : ℕ) (a : Account) → marked t d x (noted t d x a) ≡ after t d x a
  marked_noted (deed.Claim m) x a = by_bool (λ b. cond b (put_mark (record (cond b (put_mark a m x fresh) (record a { exhausted = put false a.exhausted m true })) { marks = a.marks }) m x fresh)
      (record (cond b (put_mark a m x fresh) (record a { exhausted = put false a.exhausted m true })) { marks = a.marks })
      ≡ cond b (put_mark a m x fresh) (record a { exhausted = put false a.exhausted m true })) refl refl (ltb x (scheduled t m))
  marked_noted (deed.Raise m i n) x a = refl
  marked_noted (deed.Post m i to n) x a = refl
  marked_noted (deed.Done m i) x a = reached_keeps t m (x - 1) (put_mark a m i reported)
  marked_noted (deed.Collect n) x a = by_bool (λ b. record (cond b (record a { collected = put 0 a.collected n 1 }) a) { marks = a.marks } ≡ cond b (record a { collected = put 0 a.collected n 1 }) a) refl refl (eqb x 0)
  marked_noted (deed.Look m n) x a = refl
  marked_noted (deed.Ack m n k) x a = reached_keeps t m (x - k) (record a { acked = put_pair a.acked m n (acks a m n + k) })
  marked_noted (deed.Climb c) x a = reached_keeps t (parent t c) (x - 1) (record a { duties = put false a.duties c false })

pub roomy_marks : (d : Deed) (x : ℕ) (a : Account) (m : List (List Mark)) → Roomy d x a → Roomy d x (record a { marks = m })
roomy_marks (deed.Claim n) x a m h = h
roomy_marks (deed.Raise n i k) x a m h = h
roomy_marks (deed.Post n i to k) x a m h = h
roomy_marks (deed.Done n i) x a m h = h
roomy_marks (deed.Collect n) x a m h = h
roomy_marks (deed.Look n i) x a m h = h
roomy_marks (deed.Ack n i k) x a m h = h
roomy_marks (deed.Climb c) x a m h = h

-- a hand that writes beside the marks leaves open what may be entered
module _ (t : Shape) (x h : ℕ) (xs : List Account) (b : Account) (lh : h < length xs) (same : b.marks ≡ (account xs h).marks) where
  abbrev ys : List Account
  ys = set xs h b

  alone_still : (m i : ℕ) → Alone t xs h m i → Alone t ys h m i
  alone_still m i w = record {
    manager = w.manager;
    inside = w.inside;
    others = λ g lg ne. ap (λ (a : Account). mark a m i) (get_or-set_other xs h g b nobody ne) ∙ w.others g (let n = length-set xs h b in omega arith) ne;
  }

  owing_still : (m i : ℕ) → owing (mark (account ys h) m i) ≡ owing (mark (account xs h) m i)
  owing_still m i = ap (λ (a : Account). owing (mark a m i)) (get_or-set_same xs h b nobody lh) ∙ ap (λ (k : List (List Mark)). owing (get_or (get_or k m []) i free)) same

  pub enters_still : (d : Deed) → Enters t d x xs h → Enters t d x ys h
  enters_still (deed.Claim m) w = (w.0, λ l. alone_still m x (w.1 l))
  enters_still (deed.Raise m i n) w = alone_still m i w
  enters_still (deed.Post m i to n) w = (alone_still m i w.0, let e = owing_still m i in let l = w.1 in omega arith)
  enters_still (deed.Done m i) w = alone_still m i w
  enters_still (deed.Collect n) w = w
  enters_still (deed.Look m n) w = w
  enters_still (deed.Ack m n k) w = w
  enters_still (deed.Climb c) w = w
