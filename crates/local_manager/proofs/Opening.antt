-- Where the letters to each stand, as lists are drained one after the other.
use Rattle.std.proofs.Common.{◌≡◌, ◌≢◌, ℕ, suc, zero, ◌+◌, ◌-◌, ◌<◌, Bool, true, false, ◌||◌, ◌==◌, cond, nat_eq, nat_lt, Option, Some, None, List}
use Rattle.std.proofs.Common.{[], ◌∷◌, ◌++◌, length, get_or, take, drop, slice_get, slice_set, refl, sym, ap, arith, ◌∙◌, subst, length-append}
use Rattle.std.proofs.lemmas.Bool.Decides.{nat_tests}
use Rattle.std.proofs.lemmas.List.{append-nil, drop-append-le, drop_at, get_or-append-add, length-drop, take-append-le, take_all}
use Rattle.std.proofs.lemmas.List.Elements.{filter-append, filter_passes}
use Rattle.std.proofs.lemmas.Option.{slice_get-get_or}
use Rattle.std.specs.List.{All, filter}
use Rattle.std.specs.Option.{option_map_or}
use Rattle.sim_base.specs.declared.ids.ActorId.{ActorId}
use Rattle.actor_trait.specs.InboxOrder.{Precedence, in_order, is_to}
use Rattle.actor_trait.specs.declared.letter.Letter.{Letter}
use Rattle.inbox_order.specs.Index.{IsRun}
use Rattle.inbox_order.specs.Inboxes.{inbox_of}
use Rattle.inbox_order.proofs.Arrival.{not_lost}
use Rattle.sim_model.proofs.Sameness.{id_same}
use Rattle.sim_model.proofs.Standing.{get_set_other, get_set_same}
use Rattle.inbox_order.proofs.Grouping.{filter-in_order, in_order-nil}
use Rattle.inbox_store.specs.Letters.{Letters, list_of}
use Rattle.sim_model.specs.Moment.{is_among}
use Rattle.std.proofs.lemmas.List.Folds.{list_any-append}
use Rattle.local_manager.specs.Mail.{IsAddressed, IsIndexed, IsOrdered}
use Rattle.local_manager.specs.declared.opened.Span.{Span}
use Rattle.local_manager.proofs.Boxes.{to_all, to_none}

-- ---- looking up

got_at : {X : Type 0} (xs : List X) (i : ℕ) (x : X) → slice_get xs i ≡ Some x → (i < length xs) × (get_or xs i x ≡ x)
got_at [] i x e = absurd (cc)
got_at (y ∷ ys) zero x e = (omega arith, cc)
got_at (y ∷ ys) (suc i) x e = let there = got_at ys i x e in (omega (arith, there.0), there.1)

some_length : {X : Type 0} (xs : List X) → xs ≢ [] → 0 < length xs
some_length [] n = absurd (n refl)
some_length (x ∷ xs) n = omega arith

abbrev pub begins : List Letter → ℕ → ActorId → Bool
begins ls start to = option_map_or (λ l. l.to.0 == to.0) (slice_get ls start) false

-- a letter to one that stands at its span's start
pub found_here : (ls : List Letter) (spans : List Span) (to : ActorId) (span : Span) → IsIndexed ls spans → slice_get spans to.0 ≡ Some span
    → begins ls span.start to ≡ true
    → IsRun ls span.start span.end to
found_here ls spans to span h is test = by (slice_get ls span.start) refl test
  where
    by : (o : Option Letter) → slice_get ls span.start ≡ o → option_map_or (λ l. l.to.0 == to.0) o false ≡ true → IsRun ls span.start span.end to
    by None e t = absurd (cc)
    by (Some l) e t =
        let there = got_at ls span.start l e in
        let some : 0 < length (inbox_of ls to) = some_length (filter (is_to to) ls) (not_lost (is_to to) ls l (span.start, there.0, there.1) t) in
        let found = h to some in
        let same : found.0 ≡ span = cc (found.1, is) in
        subst (λ (s : Span). IsRun ls s.start s.end to) same found.2

-- where none stands at the span's start there is none
pub not_here : (ls : List Letter) (spans : List Span) (to : ActorId) → IsIndexed ls spans
    → ((span : Span) → slice_get spans to.0 ≡ Some span → begins ls span.start to ≡ false) → inbox_of ls to ≡ []
not_here ls spans to h none = by (inbox_of ls to) refl
  where
    by : (box : List Letter) → inbox_of ls to ≡ box → inbox_of ls to ≡ []
    by [] e = e
    by (l ∷ box) e =
        let some : 0 < length (inbox_of ls to) = omega (arith, ap length e) in
        let found = h to some in
        let run = found.2 in
        let within : found.0.start < length ls = omega (arith, run.some, run.within) in
        let got : slice_get ls found.0.start ≡ Some (get_or ls found.0.start l) = slice_get-get_or ls found.0.start l within in
        let first : (get_or ls found.0.start l).to.0 ≡ to.0 = run.first l in
        let no : begins ls found.0.start to ≡ false = none found.0 found.1 in
        let yes : begins ls found.0.start to ≡ true = rw got (grind (arith, nat_tests, first)) in
        absurd (cc)

-- ---- draining one more

get_front : {X : Type 0} (xs ys : List X) (i : ℕ) (d : X) → i < length xs → get_or (xs ++ ys) i d ≡ get_or xs i d
get_front [] ys i d lt = absurd (omega (arith, lt))
get_front (x ∷ xs) ys zero d lt = refl
get_front (x ∷ xs) ys (suc i) d lt = get_front xs ys i d (omega (arith, lt))

run_more : (ls tail : List Letter) (start end : ℕ) (to id : ActorId) → IsRun ls start end to → id.0 ≢ to.0 → All (λ l. is_to id l ≡ true) tail
    → IsRun (ls ++ tail) start end to
run_more ls tail start end to id run apart its = record {
  some = run.some;
  within = omega (arith, run.within, length-append ls tail);
  first = λ d. ap (λ (l : Letter). l.to.0) (front d) ∙ run.first d;
  all =
      ap (λ (l : List Letter). take (end - start) l) (drop-append-le start ls tail (omega (arith, run.some, run.within)))
      ∙ take-append-le (end - start) (drop start ls) tail (omega (arith, run.some, run.within, length-drop start ls))
      ∙ run.all
      ∙ sym (filter-append (is_to to) ls tail ∙ ap (λ (l : List Letter). filter (is_to to) ls ++ l) (to_none to id tail apart its)
      ∙ append-nil (filter (is_to to) ls));
} where
  front : (d : Letter) → get_or (ls ++ tail) start d ≡ get_or ls start d
  front d = get_front ls tail start d (omega (arith, run.some, run.within))

run_new : (ls tail : List Letter) (id : ActorId) → 0 < length tail → All (λ l. is_to id l ≡ true) tail → inbox_of ls id ≡ []
    → IsRun (ls ++ tail) (length ls) (length ls + length tail) id
run_new ls tail id some its none = record {
  some = omega (arith, some);
  within = omega (arith, length-append ls tail);
  first = λ d. ap (λ (l : Letter). l.to.0) (subst (λ (n : ℕ). get_or (ls ++ tail) n d ≡ get_or tail 0 d) zero_more (get_or-append-add ls tail 0 d)) ∙ mine d;
  all =
      ap (λ (l : List Letter). take (length ls + length tail - length ls) l) (drop_at ls tail (length ls) refl)
      ∙ take_all (length ls + length tail - length ls) tail (omega arith)
      ∙ sym (filter-append (is_to id) ls tail ∙ ap (λ (l : List Letter). l ++ filter (is_to id) tail) none ∙ to_all id tail its);
} where
  zero_more : length ls + 0 ≡ length ls
  zero_more = omega arith

  mine : (d : Letter) → (get_or tail 0 d).to.0 ≡ id.0
  mine d = let its_first : is_to id (get_or tail 0 d) ≡ true = its 0 d some in grind (arith, nat_tests, its_first)

-- the spans once one more list is drained
abbrev pub spans_after : List Span → ActorId → ℕ → ℕ → List Span
spans_after spans id start end = cond (nat_lt start end) (slice_set spans id.0 (record { start = start; end = end })) spans

pub index_more : (ls tail : List Letter) (spans : List Span) (id : ActorId) → IsIndexed ls spans → All (λ l. is_to id l ≡ true) tail
    → (0 < length tail → inbox_of ls id ≡ []) → id.0 < length spans
    → IsIndexed (ls ++ tail) (spans_after spans id (length ls) (length ls + length tail))
index_more ls tail spans id h its fresh fits = λ to some. by to some (nat_eq id.0 to.0) refl (nat_lt (length ls) (length ls + length tail)) refl
  where
    new : Span
    new = record { start = length ls; end = length ls + length tail }

    box : (to : ActorId) → inbox_of (ls ++ tail) to ≡ inbox_of ls to ++ inbox_of tail to
    box to = filter-append (is_to to) ls tail

    by : (to : ActorId) → 0 < length (inbox_of (ls ++ tail) to) → (b : Bool) → nat_eq id.0 to.0 ≡ b → (c : Bool)
        → nat_lt (length ls) (length ls + length tail) ≡ c
        → (s : Span) × (slice_get (cond c (slice_set spans id.0 new) spans) to.0 ≡ Some s) × IsRun (ls ++ tail) s.start s.end to
    by to some true e true f =
        let same : id ≡ to = id_same id to (grind (arith, nat_tests, e)) in
        let more : 0 < length tail = grind (arith, nat_tests, f) in
        let there : slice_get spans id.0 ≡ Some (get_or spans id.0 new) = slice_get-get_or spans id.0 new fits in
        let set : slice_get (slice_set spans id.0 new) id.0 ≡ Some new = get_set_same spans id.0 new (get_or spans id.0 new) there in (
          new,
          subst (λ (a : ActorId). slice_get (slice_set spans id.0 new) a.0 ≡ Some new) same set,
          subst (λ (a : ActorId). IsRun (ls ++ tail) (length ls) (length ls + length tail) a) same (run_new ls tail id more its (fresh more)),
        )
    by to some false e true f =
        let apart : id.0 ≢ to.0 = λ q. let yes : nat_eq id.0 to.0 ≡ true = grind (arith, nat_tests, q) in absurd (cc) in
        let before : 0 < length (inbox_of ls to) = subst (λ (l : List Letter). 0 < length l)
        (box to ∙ ap (λ (l : List Letter). inbox_of ls to ++ l) (to_none to id tail apart its) ∙ append-nil (inbox_of ls to)) some in
        let found = h to before in
        (found.0, get_set_other spans id.0 to.0 new apart ∙ found.1, run_more ls tail found.0.start found.0.end to id found.2 apart its)
    by to some b e false f =
        let none : tail ≡ [] = no_tail tail (grind (arith, nat_tests, f)) in
        let same : ls ++ tail ≡ ls = ap (λ (l : List Letter). ls ++ l) none ∙ append-nil ls in
        let found = h to (subst (λ (l : List Letter). 0 < length (inbox_of l to)) same some) in
        (found.0, found.1, subst (λ (l : List Letter). IsRun l found.0.start found.0.end to) (sym same) found.2)
      where
        no_tail : (l : List Letter) → length l ≡ 0 → l ≡ []
        no_tail [] e = refl
        no_tail (x ∷ xs) e = absurd (omega (arith, e))

-- ---- the lists of all who are called

-- a list that was drained or not stands in order
pub still_ordered : (p : Precedence) (creators rs : List ActorId) (before store : Letters) → IsOrdered p creators before
    → ((to : ActorId) → list_of store to.0 ≡ cond (is_among rs to) [] (list_of before to.0)) → IsOrdered p creators store
still_ordered p creators rs before store h left = λ to out. subst (λ (l : List Letter). in_order p l ≡ l) (sym (left to)) (by to out (is_among rs to))
  where
    by : (to : ActorId) → is_among creators to ≡ false → (b : Bool) → in_order p (cond b [] (list_of before to.0)) ≡ cond b [] (list_of before to.0)
    by to out true = in_order-nil p
    by to out false = h to out

among_more : (rs : List ActorId) (to id : ActorId) → is_among (rs ++ to ∷ []) id ≡ (is_among rs id || nat_eq to.0 id.0)
among_more rs to id = list_any-append (λ k. nat_eq k.0 id.0) rs (to ∷ []) ∙ ap (λ (b : Bool). is_among rs id || b) (or_none (nat_eq to.0 id.0))
  where
    or_none : (b : Bool) → (b || false) ≡ b
    or_none true = refl
    or_none false = refl

all_to : (p : Precedence) (to : ActorId) (ls : List Letter) → All (λ l. is_to to l ≡ true) ls → All (λ l. is_to to l ≡ true) (in_order p ls)
all_to p to ls h =
    let same : filter (is_to to) (in_order p ls) ≡ in_order p ls = filter-in_order p (is_to to) ls ∙ ap (in_order p) (to_all to ls h) in
    subst (λ (l : List Letter). All (λ k. is_to to k ≡ true) l) same (filter_passes (is_to to) (in_order p ls))

-- the lists of those so far are drained
pub record AreDrained (p : Precedence) (before : Letters) (rs : List ActorId) (store : Letters) (opened : List Letter) (spans : List Span) : Type 0 where
  pub inboxes : (to : ActorId) → inbox_of opened to ≡ cond (is_among rs to) (in_order p (list_of before to.0)) []
  pub left : (to : ActorId) → list_of store to.0 ≡ cond (is_among rs to) [] (list_of before to.0)
  pub indexed : IsIndexed opened spans

pub drained_more : (p : Precedence) (before store after : Letters) (rs : List ActorId) (to : ActorId) (opened : List Letter) (spans : List Span)
    → IsAddressed before
    → AreDrained p before rs store opened spans → to.0 < length spans
    → ((id : ActorId) → list_of after id.0 ≡ cond (id.0 == to.0) [] (list_of store id.0))
    → AreDrained p before (rs ++ to ∷ []) after (opened ++ in_order p (list_of store to.0))
    (spans_after spans to (length opened) (length opened + length (in_order p (list_of store to.0))))
drained_more p before store after rs to opened spans addressed h fits drained = record {
  inboxes = λ id. box id ∙ inbox id (is_among rs id) (nat_eq to.0 id.0) refl refl
      ∙ ap (λ (b : Bool). cond b (in_order p (list_of before id.0)) []) (sym (among_more rs to id));
  left = λ id. drained id ∙ rest id (is_among rs id) (nat_eq to.0 id.0) refl refl
      ∙ ap (λ (b : Bool). cond b [] (list_of before id.0)) (sym (among_more rs to id));
  indexed = index_more opened tail spans to h.indexed its fresh fits;
} where
  tail : List Letter
  tail = in_order p (list_of store to.0)

  mine : (b : Bool) → All (λ l. is_to to l ≡ true) (cond b [] (list_of before to.0))
  mine true = λ k d lt. absurd (omega (arith, lt))
  mine false = addressed to

  its : All (λ l. is_to to l ≡ true) tail
  its = all_to p to (list_of store to.0) (subst (λ (l : List Letter). All (λ k. is_to to k ≡ true) l) (sym (h.left to)) (mine (is_among rs to)))

  tail_of : (b : Bool) → is_among rs to ≡ b → tail ≡ cond b [] (in_order p (list_of before to.0))
  tail_of true e = let list : list_of store to.0 ≡ [] = rw e at (h.left to) in ap (in_order p) list ∙ in_order-nil p
  tail_of false e = let list : list_of store to.0 ≡ list_of before to.0 = rw e at (h.left to) in ap (in_order p) list

  box : (id : ActorId) → inbox_of (opened ++ tail) id ≡ inbox_of opened id ++ inbox_of tail id
  box id = filter-append (is_to id) opened tail

  fresh : 0 < length tail → inbox_of opened to ≡ []
  fresh some = by (is_among rs to) refl
    where
      by : (b : Bool) → is_among rs to ≡ b → inbox_of opened to ≡ []
      by true e = absurd (omega (arith, some, ap (λ (l : List Letter). length l) (tail_of true e)))
      by false e = rw e at (h.inboxes to)

  inbox : (id : ActorId) (b c : Bool) → is_among rs id ≡ b → nat_eq to.0 id.0 ≡ c
      → inbox_of opened id ++ inbox_of tail id ≡ cond (b || c) (in_order p (list_of before id.0)) []
  inbox id b true e f =
      let same : to ≡ id = id_same to id (grind (arith, nat_tests, f)) in
      subst (λ (a : ActorId). inbox_of opened a ++ inbox_of tail a ≡ cond (b || true) (in_order p (list_of before a.0)) []) same
      (ap (λ (l : List Letter). inbox_of opened to ++ l) (to_all to tail its) ∙ here b (subst (λ (a : ActorId). is_among rs a ≡ b) (sym same) e))
    where
      here : (b : Bool) → is_among rs to ≡ b → inbox_of opened to ++ tail ≡ cond (b || true) (in_order p (list_of before to.0)) []
      here true e = ap (λ (l : List Letter). inbox_of opened to ++ l) (tail_of true e) ∙ append-nil (inbox_of opened to) ∙ (rw e at (h.inboxes to))
      here false e = let none : inbox_of opened to ≡ [] = rw e at (h.inboxes to) in ap (λ (l : List Letter). l ++ tail) none ∙ tail_of false e
  inbox id b false e f =
      let apart : to.0 ≢ id.0 = λ q. let yes : nat_eq to.0 id.0 ≡ true = grind (arith, nat_tests, q) in absurd (cc) in
      ap (λ (l : List Letter). inbox_of opened id ++ l) (to_none id to tail apart its) ∙ append-nil (inbox_of opened id) ∙ h.inboxes id ∙ other b e
    where
      other : (b : Bool) → is_among rs id ≡ b → cond (is_among rs id) (in_order p (list_of before id.0)) [] ≡ cond (b || false)
          (in_order p (list_of before id.0)) []
      other true e = rw e refl
      other false e = rw e refl

  rest : (id : ActorId) (b c : Bool) → is_among rs id ≡ b → nat_eq to.0 id.0 ≡ c
      → cond (id.0 == to.0) [] (list_of store id.0) ≡ cond (b || c) [] (list_of before id.0)
  rest id b true e f =
      let test : (id.0 == to.0) ≡ true = grind (arith, nat_tests, f) in
      rw test (there b)
    where
      there : (b : Bool) → [] ≡ cond {A = List Letter} (b || true) [] (list_of before id.0)
      there true = refl
      there false = refl
  rest id b false e f =
      let test : (id.0 == to.0) ≡ false = grind (arith, nat_tests, f) in
      rw test (h.left id ∙ other b e)
    where
      other : (b : Bool) → is_among rs id ≡ b → cond (is_among rs id) [] (list_of before id.0) ≡ cond (b || false) [] (list_of before id.0)
      other true e = rw e refl
      other false e = rw e refl
