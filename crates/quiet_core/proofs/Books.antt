-- The accounts that a ledger for each hand and one table of actors stand for, where one of them changes.
use Rattle.std.proofs.Common.{◌≡◌, ◌≢◌, ℕ, zero, suc, ◌+◌, ◌<◌, ◌≤◌, List, [], ◌∷◌, map, length, get_or, set, sym, refl, ap, ◌∙◌, subst, arith, length-set}
use Rattle.std.proofs.lemmas.List.{map-set, set-get_or}
use Rattle.std.proofs.Math.Seq.{map-set_same}
use lib.ListN.{length-map}
use Rattle.quiet_core.specs.declared.entry.Entry.{Entry}
use Rattle.quiet_core.specs.declared.entry.Entry.TheVariants as entry
use Rattle.quiet_core.specs.Rows.{put}
use Rattle.quiet_core.specs.Account.{Mark, free, Account, nobody, account, mark}
use Rattle.quiet_core.specs.Step.{put_mark}
use Rattle.quiet_core.specs.Entries.{mark_of, marks_of, whole, all_from, Book}
use Rattle.quiet_core.proofs.Sums.{put_is_set}

pub length_all : (k : ℕ) (ls : List Account) (table : List (List Entry)) → length (all_from k ls table) ≡ length ls
length_all k [] table = refl
length_all k (l ∷ ls) table = let r = length_all (suc k) ls table in omega arith

at_from : (k h g : ℕ) (ls : List Account) (table : List (List Entry)) → g ≡ k + h → h < length ls → account (all_from k ls table) h ≡ whole g (account ls h) table
at_from k h g [] table e l = absurd (omega arith)
at_from k zero g (x ∷ xs) table e l = let is : k ≡ g = omega arith in ap (λ (n : ℕ). whole n x table) is
at_from k (suc h) g (x ∷ xs) table e l = at_from (suc k) h g xs table (omega arith) (omega arith)

pub at_all : (h : ℕ) (ls : List Account) (table : List (List Entry)) → h < length ls → account (all_from 0 ls table) h ≡ whole h (account ls h) table
at_all h ls table l = at_from 0 h h ls table (omega arith) l

module _ (table table' : List (List Entry)) where
  same_from : (k : ℕ) (ls : List Account) → ((j : ℕ) → k ≤ j → j < k + length ls → marks_of j table' ≡ marks_of j table) → all_from k ls table' ≡ all_from k ls table
  same_from k [] same = refl
  same_from k (x ∷ xs) same = let head : whole k x table' ≡ whole k x table = ap (λ (m : List (List Mark)). record x { marks = m }) (same k (omega arith) (omega arith)) in
      let tail = same_from (suc k) xs (λ j l u. same j (omega arith) (omega arith)) in λ i. head i ∷ tail i

  set_from : (k h g : ℕ) (ls : List Account) (l : Account) → g ≡ k + h → h < length ls → ((j : ℕ) → k ≤ j → j < k + length ls → j ≢ g → marks_of j table' ≡ marks_of j table)
      → all_from k (set ls h l) table' ≡ set (all_from k ls table) h (whole g l table')
  set_from k h g [] l e lt same = absurd (omega arith)
  set_from k zero g (x ∷ xs) l e lt same = let is : k ≡ g = omega arith in let head : whole k l table' ≡ whole g l table' = ap (λ (n : ℕ). whole n l table') is in
      let tail = same_from (suc k) xs (λ j a b. same j (omega arith) (omega arith) (omega arith)) in λ i. head i ∷ tail i
  set_from k (suc h) g (x ∷ xs) l e lt same = let head : whole k x table' ≡ whole k x table = ap (λ (m : List (List Mark)). record x { marks = m }) (same k (omega arith) (omega arith) (omega arith)) in
      let tail = set_from (suc k) h g xs l (omega arith) (omega arith) (λ j a b. same j (omega arith) (omega arith)) in λ i. head i ∷ tail i

  -- one ledger changes, and the table is to all others what it was
  pub set_all : (h : ℕ) (ls : List Account) (l : Account) → h < length ls → ((j : ℕ) → j < length ls → j ≢ h → marks_of j table' ≡ marks_of j table)
      → all_from 0 (set ls h l) table' ≡ set (all_from 0 ls table) h (whole h l table')
  set_all h ls l lt same = set_from 0 h h ls l (omega arith) lt (λ j a b ne. same j (omega arith) ne)

pub get_or-any : {A : Type 0} (l : List A) (i : ℕ) (d e : A) → i < length l → get_or l i d ≡ get_or l i e
get_or-any [] i d e l = absurd (omega arith)
get_or-any (x ∷ xs) zero d e l = refl
get_or-any (x ∷ xs) (suc i) d e l = get_or-any xs i d e (omega arith)

row_at : {A B : Type 0} (f : A → B) (table : List (List A)) (m : ℕ) → get_or (map (λ row. map f row) table) m [] ≡ map f (get_or table m [])
row_at f [] m = refl
row_at f (x ∷ xs) zero = refl
row_at f (x ∷ xs) (suc m) = row_at f xs m

cell_at : {A B : Type 0} (f : A → B) (d : A) (row : List A) (i : ℕ) → get_or (map f row) i (f d) ≡ f (get_or row i d)
cell_at f d [] i = refl
cell_at f d (x ∷ xs) zero = refl
cell_at f d (x ∷ xs) (suc i) = cell_at f d xs i

-- what the table says of an actor
pub mark_table : (g : ℕ) (table : List (List Entry)) (m i : ℕ) → get_or (get_or (marks_of g table) m []) i free ≡ mark_of g (get_or (get_or table m []) i entry.Free)
mark_table g table m i = ap (λ (r : List Mark). get_or r i free) (row_at (mark_of g) table m) ∙ cell_at (mark_of g) entry.Free (get_or table m []) i

pub mark_all : (g : ℕ) (ls : List Account) (table : List (List Entry)) (m i : ℕ) → g < length ls → mark (account (all_from 0 ls table) g) m i ≡ mark_of g (get_or (get_or table m []) i entry.Free)
mark_all g ls table m i l = ap (λ (a : Account). mark a m i) (at_all g ls table l) ∙ mark_table g table m i

module _ (table : List (List Entry)) (m i : ℕ) (v : Entry) where
  abbrev row : List Entry
  row = get_or table m []

  abbrev pub entered_table : List (List Entry)
  entered_table = set table m (set (get_or table m []) i v)

  marks_here : (h : ℕ) → m < length table → i < length row → marks_of h entered_table ≡ put [] (marks_of h table) m (put free (get_or (marks_of h table) m []) i (mark_of h v))
  marks_here h lm li =
      let one : map (mark_of h) (set row i v) ≡ put free (get_or (marks_of h table) m []) i (mark_of h v) =
      map-set (mark_of h) row i v ∙ sym (put_is_set free (map (mark_of h) row) i (mark_of h v) (let e = length-map row (mark_of h) in omega arith)) ∙ ap (λ (r : List Mark). put free r i (mark_of h v)) (sym (row_at (mark_of h) table m)) in
      map-set (λ (r : List Entry). map (mark_of h) r) table m (set row i v) ∙ ap (λ (r : List Mark). set (marks_of h table) m r) one
      ∙ sym (put_is_set [] (marks_of h table) m (put free (get_or (marks_of h table) m []) i (mark_of h v)) (let e = length-map table (λ (r : List Entry). map (mark_of h) r) in omega arith))

  marks_there : (g : ℕ) → mark_of g v ≡ mark_of g (get_or row i entry.Free) → marks_of g entered_table ≡ marks_of g table
  marks_there g e = map-set_same (λ (r : List Entry). map (mark_of g) r) table m (set row i v) [] (map-set_same (mark_of g) row i v entry.Free e)

  -- an actor is entered at the hand h
  pub enter_all : (h : ℕ) (ls : List Account) → h < length ls → m < length table → i < length row → ((g : ℕ) → g ≢ h → mark_of g v ≡ free)
      → ((g : ℕ) → g < length ls → g ≢ h → mark (account (all_from 0 ls table) g) m i ≡ free)
      → all_from 0 ls entered_table ≡ set (all_from 0 ls table) h (put_mark (account (all_from 0 ls table) h) m i (mark_of h v))
  enter_all h ls lh lm li own alone =
      ap (λ (z : List Account). all_from 0 z entered_table) (sym (set-get_or ls h nobody))
      ∙ set_all table entered_table h ls (account ls h) lh (λ g lg ne. marks_there g (own g ne ∙ sym (sym (mark_all g ls table m i lg) ∙ alone g lg ne)))
      ∙ ap (λ (a : Account). set (all_from 0 ls table) h a)
      (ap (λ (k : List (List Mark)). record (account ls h) { marks = k }) (marks_here h lm li) ∙ ap (λ (a : Account). put_mark a m i (mark_of h v)) (sym (at_all h ls table lh)))

-- the lengths of a table's rows
pub lengths_same : (table : List (List Entry)) (m i : ℕ) (v : Entry) → map length (entered_table table m i v) ≡ map length table
lengths_same table m i v = map-set_same length table m (set (get_or table m []) i v) [] (length-set (get_or table m []) i v)

pub length_at : (table : List (List Entry)) (m : ℕ) → get_or (map length table) m 0 ≡ length (get_or table m [])
length_at [] m = refl
length_at (x ∷ xs) zero = refl
length_at (x ∷ xs) (suc m) = length_at xs m

-- the same for rows that hold their items
module _ {A : Type 0} (items : A → List Entry) where
  abbrev pub book : List Account → List A → Book
  book ls ms = record { sched = map (λ row. length (items row)) ms; accounts = all_from 0 ls (map items ms) }

  row_items : (ms : List A) (m : ℕ) (row : A) → m < length ms → row ≡ get_or ms m row → get_or (map items ms) m [] ≡ items row
  row_items [] m row l e = absurd (omega arith)
  row_items (x ∷ xs) zero row l e = ap items (sym e)
  row_items (x ∷ xs) (suc m) row l e = row_items xs m row (omega arith) e

  pub table_entered : (ms : List A) (m i : ℕ) (v : Entry) (row new : A) → m < length ms → row ≡ get_or ms m row → items new ≡ set (items row) i v → map items (set ms m new) ≡ entered_table (map items ms) m i v
  table_entered ms m i v row new l e is = map-set items ms m new ∙ ap (λ (r : List Entry). set (map items ms) m r) (is ∙ ap (λ (r : List Entry). set r i v) (sym (row_items ms m row l e)))

  pub sched_same : (ms : List A) (m i : ℕ) (v : Entry) (row new : A) → row ≡ get_or ms m row → items new ≡ set (items row) i v → map (λ row. length (items row)) (set ms m new) ≡ map (λ row. length (items row)) ms
  sched_same ms m i v row new e is = map-set_same (λ (r : A). length (items r)) ms m new row (ap length is ∙ length-set (items row) i v ∙ ap (λ (r : A). length (items r)) e)

  sched_at : (ms : List A) (m : ℕ) → get_or (map (λ row. length (items row)) ms) m 0 ≡ length (get_or (map items ms) m [])
  sched_at [] m = refl
  sched_at (x ∷ xs) zero = refl
  sched_at (x ∷ xs) (suc m) = sched_at xs m

  pub enter_book : (ls : List Account) (ms : List A) (h m i : ℕ) (v : Entry) (row new : A) → row ≡ get_or ms m row → items new ≡ set (items row) i v → (b : Book) → book ls ms ≡ b
      → h < length b.accounts → m < length b.sched → i < get_or b.sched m 0 → ((g : ℕ) → g ≢ h → mark_of g v ≡ free) → ((g : ℕ) → g < length b.accounts → g ≢ h → mark (account b.accounts g) m i ≡ free)
      → all_from 0 ls (map items (set ms m new)) ≡ set b.accounts h (put_mark (account b.accounts h) m i (mark_of h v))
  enter_book ls ms h m i v row new e is b view =
      subst (λ (b : Book). h < length b.accounts → m < length b.sched → i < get_or b.sched m 0 → ((g : ℕ) → g ≢ h → mark_of g v ≡ free) → ((g : ℕ) → g < length b.accounts → g ≢ h → mark (account b.accounts g) m i ≡ free)
      → all_from 0 ls (map items (set ms m new)) ≡ set b.accounts h (put_mark (account b.accounts h) m i (mark_of h v))) view
      (λ lh lm li own alone. let n = length_all 0 ls (map items ms) in let r = length-map ms (λ (row : A). length (items row)) in let q = length-map ms items in let w = sched_at ms m in
      let lh' : h < length ls = omega arith in let lm' : m < length ms = omega arith in
      ap (λ (z : List (List Entry)). all_from 0 ls z) (table_entered ms m i v row new lm' e is)
      ∙ enter_all (map items ms) m i v h ls lh' (omega arith) (omega arith) own (λ g lg ne. alone g (omega arith) ne))

  -- a ledger changes
  pub note_book : (ls : List Account) (ms : List A) (h : ℕ) (l : Account) (b : Book) → book ls ms ≡ b → h < length b.accounts
      → all_from 0 (set ls h l) (map items ms) ≡ set b.accounts h (record l { marks = (account b.accounts h).marks })
  note_book ls ms h l b view =
      subst (λ (b : Book). h < length b.accounts → all_from 0 (set ls h l) (map items ms) ≡ set b.accounts h (record l { marks = (account b.accounts h).marks })) view
      (λ lh. let n = length_all 0 ls (map items ms) in let lh' : h < length ls = omega arith in
      set_all (map items ms) (map items ms) h ls l lh' (λ j lj ne. refl)
      ∙ ap (λ (k : List (List Mark)). set (all_from 0 ls (map items ms)) h (record l { marks = k })) (sym (ap (λ (a : Account). a.marks) (at_all h ls (map items ms) lh'))))

  -- the ledger of a hand is its account but for the marks
  pub ledger_book : (ls : List Account) (ms : List A) (h : ℕ) (l : Account) (b : Book) → book ls ms ≡ b → h < length b.accounts → l ≡ get_or ls h l → l ≡ record (account b.accounts h) { marks = l.marks }
  ledger_book ls ms h l b view =
      subst (λ (b : Book). h < length b.accounts → l ≡ get_or ls h l → l ≡ record (account b.accounts h) { marks = l.marks }) view
      (λ lh e. let n = length_all 0 ls (map items ms) in let lh' : h < length ls = omega arith in
      let is : l ≡ account ls h = e ∙ sym (get_or-any ls h nobody l lh') in
      ap (λ (a : Account). record a { marks = l.marks }) is ∙ sym (ap (λ (a : Account). record a { marks = l.marks }) (at_all h ls (map items ms) lh')))

  pub hands_book : (ls : List Account) (ms : List A) (b : Book) → book ls ms ≡ b → length ls ≡ length b.accounts
  hands_book ls ms b view = sym (length_all 0 ls (map items ms)) ∙ ap (λ (b : Book). length b.accounts) view

  -- what an entry is to each hand
  pub mark_book : (ls : List Account) (ms : List A) (h m i : ℕ) (row : A) (b : Book) → book ls ms ≡ b → row ≡ get_or ms m row → m < length b.sched → h < length b.accounts
      → mark (account b.accounts h) m i ≡ mark_of h (get_or (items row) i entry.Free)
  mark_book ls ms h m i row b view e =
      subst (λ (b : Book). m < length b.sched → h < length b.accounts → mark (account b.accounts h) m i ≡ mark_of h (get_or (items row) i entry.Free)) view
      (λ lm lh. let n = length_all 0 ls (map items ms) in let r = length-map ms (λ (row : A). length (items row)) in let lh' : h < length ls = omega arith in let lm' : m < length ms = omega arith in
      mark_all h ls (map items ms) m i lh' ∙ ap (λ (r : List Entry). mark_of h (get_or r i entry.Free)) (row_items ms m row lm' e))
