-- The accounts after a join and after a split.
use Rattle.std.proofs.Common.{◌≡◌, ◌≢◌, ℕ, suc, ◌<◌, List, [], ◌∷◌, map, replicate, length, get_or, set, refl, sym, ap, ◌∙◌, subst, arith, length-set, get_or-set_other, get_or-set_same}
use mathlib.Core.Logic.{dite}
use native.Mathlib.Decide.{ℕ_discrete}
use Rattle.quiet_core.specs.declared.entry.Entry.{Entry}
use Rattle.quiet_core.specs.Account.{Shape, Mark, free, Account, blank, no_actors, nobody, account}
use Rattle.quiet_core.specs.Step.{united, kept_part, new_part}
use Rattle.quiet_core.specs.Entries.{marks_of, whole, all_from, Book}
use Rattle.quiet_core.proofs.Books.{book, length_all, at_all, set_all, get_or-any}
use Rattle.quiet_core.proofs.Passes.{passed_table, table_gone, table_taken, table_else, lengths_of}

pub same_lists : (xs ys : List Account) → length xs ≡ length ys → ((k : ℕ) → k < length xs → account xs k ≡ account ys k) → xs ≡ ys
same_lists [] [] e h = refl
same_lists [] (y ∷ ys) e h = absurd (omega arith)
same_lists (x ∷ xs) [] e h = absurd (omega arith)
same_lists (x ∷ xs) (y ∷ ys) e h = let one : x ≡ y = h 0 (omega arith) in let r = same_lists xs ys (omega arith) (λ k l. h (suc k) (omega arith)) in λ i. one i ∷ r i

-- a shape whose actors alone matter
abbrev pub bare : List ℕ → Shape
bare sched = record { sched = sched; parents = []; hands = 0 }

module _ {A : Type 0} (items : A → List Entry) (ls : List Account) (ms : List A) (h g : ℕ) (ne : g ≢ h) where
  module _ (ms' : List A) (x y z u : Account) (passes : map items ms' ≡ passed_table g h ne (map items ms)) (is_x : x ≡ get_or ls g x) (is_y : y ≡ get_or (set ls g z) h y) (is_z : z ≡ nobody) (is_u : u ≡ united y x)
      (lh : h < length ls) (lg : g < length ls) where
    abbrev table : List (List Entry)
    table = map items ms

    abbrev xs : List Account
    xs = all_from 0 ls table

    abbrev ls' : List Account
    ls' = set (set ls g z) h u

    abbrev both : Account
    both = united (account xs h) (account xs g)

    abbrev left : Account
    left = blank (bare (map (λ row. length (items row)) ms))

    of_x : x ≡ account ls g
    of_x = is_x ∙ get_or-any ls g x nobody lg

    of_y : y ≡ account ls h
    of_y = is_y ∙ get_or-set_other ls g h z y (λ e. ne (sym e)) ∙ get_or-any ls h y nobody lh

    at_gone : whole g (account ls' g) (passed_table g h ne table) ≡ account (set (set xs h both) g left) g
    at_gone = let n = length_all 0 ls table in let m = length-set xs h both in
        ap (λ (a : Account). whole g a (passed_table g h ne table)) (get_or-set_other (set ls g z) h g u nobody ne ∙ get_or-set_same ls g z nobody lg ∙ is_z)
        ∙ ap (λ (k : List (List Mark)). record nobody { marks = k }) (table_gone g h ne table ∙ ap (λ (l : List ℕ). map (λ n. replicate n free) l) (sym (lengths_of items ms)))
        ∙ sym (get_or-set_same (set xs h both) g left nobody (omega arith))

    at_taken : whole h (account ls' h) (passed_table g h ne table) ≡ account (set (set xs h both) g left) h
    at_taken = let n = length_all 0 ls table in let m = length-set ls g z in let ne' : h ≢ g = λ e. ne (sym e) in
        ap (λ (a : Account). whole h a (passed_table g h ne table)) (get_or-set_same (set ls g z) h u nobody (omega arith) ∙ is_u ∙ ap (λ (a : Account). united a x) of_y ∙ ap (λ (a : Account). united (account ls h) a) of_x)
        ∙ ap (λ (k : List (List Mark)). record (united (account ls h) (account ls g)) { marks = k }) (table_taken g h ne table)
        ∙ ap (λ (a : Account). united a (whole g (account ls g) table)) (sym (at_all h ls table lh)) ∙ ap (λ (a : Account). united (account xs h) a) (sym (at_all g ls table lg))
        ∙ sym (get_or-set_other (set xs h both) g h left nobody ne' ∙ get_or-set_same xs h both nobody (omega arith))

    at_other : (k : ℕ) → k < length ls → k ≢ g → k ≢ h → whole k (account ls' k) (passed_table g h ne table) ≡ account (set (set xs h both) g left) k
    at_other k lk ng nh =
        ap (λ (a : Account). whole k a (passed_table g h ne table)) (get_or-set_other (set ls g z) h k u nobody nh ∙ get_or-set_other ls g k z nobody ng)
        ∙ ap (λ (m : List (List Mark)). record (account ls k) { marks = m }) (table_else g h ne k ng nh table)
        ∙ sym (get_or-set_other (set xs h both) g k left nobody ng ∙ get_or-set_other xs h k both nobody nh ∙ at_all k ls table lk)

    at_each : (k : ℕ) → k < length ls → whole k (account ls' k) (passed_table g h ne table) ≡ account (set (set xs h both) g left) k
    at_each k lk = dite (ℕ_discrete k g) (λ e. subst (λ (j : ℕ). whole j (account ls' j) (passed_table g h ne table) ≡ account (set (set xs h both) g left) j) (sym e) at_gone)
        (λ ng. dite (ℕ_discrete k h) (λ e. subst (λ (j : ℕ). whole j (account ls' j) (passed_table g h ne table) ≡ account (set (set xs h both) g left) j) (sym e) at_taken) (λ nh. at_other k lk ng nh))

    pub joined_all : all_from 0 ls' (map items ms') ≡ set (set xs h both) g left
    joined_all = ap (λ (t : List (List Entry)). all_from 0 ls' t) passes
        ∙ (let n = length_all 0 ls' (passed_table g h ne table) in let n' = length_all 0 ls table in let p = length-set ls g z in
        let q = length-set (set ls g z) h u in let r = length-set xs h both in let o = length-set (set xs h both) g left in
        same_lists (all_from 0 ls' (passed_table g h ne table)) (set (set xs h both) g left) (omega arith)
        (λ k lk. at_all k ls' (passed_table g h ne table) (omega arith) ∙ at_each k (omega arith)))

  -- a join, by what contracts see
  pub join_book : (ms' : List A) (x y z u : Account) → map items ms' ≡ passed_table g h ne (map items ms) → x ≡ get_or ls g x → y ≡ get_or (set ls g z) h y → z ≡ nobody → u ≡ united y x → (b : Book) → book items ls ms ≡ b
      → h < length b.accounts → g < length b.accounts → all_from 0 (set (set ls g z) h u) (map items ms') ≡ set (set b.accounts h (united (account b.accounts h) (account b.accounts g))) g (blank (bare b.sched))
  join_book ms' x y z u passes is_x is_y is_z is_u b view =
      subst (λ (b : Book). h < length b.accounts → g < length b.accounts → all_from 0 (set (set ls g z) h u) (map items ms') ≡ set (set b.accounts h (united (account b.accounts h) (account b.accounts g))) g (blank (bare b.sched))) view
      (λ lh lg. let n = length_all 0 ls (map items ms) in joined_all ms' x y z u passes is_x is_y is_z is_u (omega arith) (omega arith))

  -- a split, by what contracts see
  pub split_book : (y p k : Account) → y ≡ get_or ls h y → k ≡ kept_part y → p ≡ new_part no_actors k → (b : Book) → book items ls ms ≡ b
      → h < length b.accounts → g < length b.accounts → account b.accounts g ≡ blank (bare b.sched)
      → all_from 0 (set (set ls h k) g p) (map items ms) ≡ set (set b.accounts h (kept_part (account b.accounts h))) g (new_part (bare b.sched) (account b.accounts h))
  split_book y p k is_y is_k is_p b view =
      subst (λ (b : Book). h < length b.accounts → g < length b.accounts → account b.accounts g ≡ blank (bare b.sched)
      → all_from 0 (set (set ls h k) g p) (map items ms) ≡ set (set b.accounts h (kept_part (account b.accounts h))) g (new_part (bare b.sched) (account b.accounts h))) view
      (λ lh lg empty. let table : List (List Entry) = map items ms in let n = length_all 0 ls (map items ms) in let lh' : h < length ls = omega arith in let lg' : g < length ls = omega arith in let m = length-set ls h k in
      let whole_y : whole h y (map items ms) ≡ account (all_from 0 ls (map items ms)) h = ap (λ (a : Account). whole h a (map items ms)) (is_y ∙ get_or-any ls h y nobody lh') ∙ sym (at_all h ls (map items ms) lh') in
      let kept : whole h k (map items ms) ≡ kept_part (account (all_from 0 ls (map items ms)) h) = ap (λ (a : Account). whole h a (map items ms)) is_k ∙ ap kept_part whole_y in
      let free_g : marks_of g (map items ms) ≡ (blank (bare (map (λ row. length (items row)) ms))).marks = sym (ap (λ (a : Account). a.marks) (at_all g ls (map items ms) lg')) ∙ ap (λ (a : Account). a.marks) empty in
      let known : k.known ≡ (account (all_from 0 ls (map items ms)) h).known = ap (λ (a : Account). a.known) kept in
      let fresh_g : whole g p (map items ms) ≡ new_part (bare (map (λ row. length (items row)) ms)) (account (all_from 0 ls (map items ms)) h) =
      ap (λ (a : Account). whole g a (map items ms)) is_p
      ∙ ap (λ (m : List (List Mark)). record (new_part no_actors k) { marks = m }) free_g
      ∙ ap (λ (r : List (List ℕ)). record (new_part (bare (map (λ row. length (items row)) ms)) k) { known = r }) known in
      set_all (map items ms) (map items ms) g (set ls h k) p (omega arith) (λ j lj ne. refl)
      ∙ ap (λ (l : List Account). set l g (whole g p (map items ms))) (set_all (map items ms) (map items ms) h ls k lh' (λ j lj ne. refl))
      ∙ ap (λ (a : Account). set (set (all_from 0 ls (map items ms)) h a) g (whole g p (map items ms))) kept
      ∙ ap (λ (a : Account). set (set (all_from 0 ls (map items ms)) h (kept_part (account (all_from 0 ls (map items ms)) h))) g a) fresh_g)
