-- Creators, each once.
use Rattle.std.proofs.Common.{◌≡◌, ℕ, suc, zero, ◌-◌, ◌<◌, ◌≤◌, Bool, true, false, not, ◌||◌, ◌&&◌, ◌==◌, cond, nat_eq, Option, Some, List, [], ◌∷◌}
use Rattle.std.proofs.Common.{◌++◌, length, get_or, slice_get, Contains, nat_lt, refl, sym, ap, arith, ◌∙◌, subst}
use Rattle.std.proofs.lemmas.Bool.Decides.{nat_tests}
use Rattle.std.proofs.lemmas.List.Elements.{All-append, All-tail, All-weaker}
use Rattle.std.proofs.lemmas.List.Folds.{list_any-append, list_any_at}
use Rattle.std.proofs.lemmas.Option.{slice_get-get_or}
use Rattle.std.specs.List.{All, filter}
use Rattle.sim_base.specs.declared.ids.ActorId.{ActorId}
use Rattle.actor_trait.specs.declared.letter.Letter.{Letter}
use Rattle.inbox_order.specs.Index.{is_last}
use Rattle.inbox_order.specs.Inboxes.{inbox_of}
use Rattle.sim_model.specs.Moment.{in_order_once, is_alive, is_among}
use Rattle.sim_model.specs.Setups.{Ascend}
use Rattle.sim_model.proofs.Ascending.{pairs_append}
use Rattle.sim_model.proofs.Sameness.{id_same}
use Rattle.local_manager.proofs.Among.{has_some, some_filtered}
use Rattle.local_manager.proofs.Puts.{contains_among}
use Rattle.sim_model.proofs.Among.{among-in_order}

-- one that stands last is among them
last_among : (ids : List ActorId) (id : ActorId) → is_last ids id ≡ true → is_among ids id ≡ true
last_among [] id h = absurd (cc)
last_among (x ∷ xs) id h =
    let all : List ActorId = x ∷ xs in
    let within : length all - 1 < length all = omega arith in
    let got : slice_get all (length all - 1) ≡ Some (get_or all (length all - 1) x) = slice_get-get_or all (length all - 1) x within in
    let same : ((get_or all (length all - 1) x).0 == id.0) ≡ true = rw got at h in
    list_any_at (λ k. nat_eq k.0 id.0) all (length all - 1) x within same

-- where none is past it and it isn't the last, all are below it
all_below : (ids : List ActorId) (id : ActorId) → Ascend ids → All (λ c. c.0 ≤ id.0) ids → is_last ids id ≡ false → All (λ c. c.0 < id.0) ids
all_below ids id up le h = λ k d lt. by k d lt (nat_eq k (length ids - 1)) refl
  where
    last : (d : ActorId) → 0 < length ids → (get_or ids (length ids - 1) d).0 < id.0
    last d some =
        let within : length ids - 1 < length ids = omega (arith, some) in
        let got : slice_get ids (length ids - 1) ≡ Some (get_or ids (length ids - 1) d) = slice_get-get_or ids (length ids - 1) d within in
        let apart : ((get_or ids (length ids - 1) d).0 == id.0) ≡ false = rw got at h in
        let fits : (get_or ids (length ids - 1) d).0 ≤ id.0 = le (length ids - 1) d within in
        grind (arith, nat_tests, apart, fits)

    by : (k : ℕ) (d : ActorId) → k < length ids → (b : Bool) → nat_eq k (length ids - 1) ≡ b → (get_or ids k d).0 < id.0
    by k d lt true e =
        let same : k ≡ length ids - 1 = grind (arith, nat_tests, e) in
        subst (λ (n : ℕ). (get_or ids n d).0 < id.0) (sym same) (last d (omega (arith, lt)))
    by k d lt false e =
        let before : k < length ids - 1 = grind (arith, nat_tests, e, lt) in
        omega (arith, up k (length ids - 1) d before (omega (arith, lt)), last d (omega (arith, lt)))

some_more : (bs : List Letter) (l : Letter) (id : ActorId) → has_some (bs ++ l ∷ []) id ≡ (has_some bs id || nat_eq l.to.0 id.0)
some_more bs l id = list_any-append (λ k. nat_eq k.to.0 id.0) bs (l ∷ []) ∙ ap (λ (b : Bool). has_some bs id || b) (or_none (nat_eq l.to.0 id.0))
  where
    or_none : (b : Bool) → (b || false) ≡ b
    or_none true = refl
    or_none false = refl

abbrev pub ids_after : {A : Type 0} → List (Option A) → List ActorId → ActorId → List ActorId
ids_after states ids id = cond (is_alive states id && not (is_last ids id)) (ids ++ id ∷ []) ids

-- the creators of the letters so far, none past those that are left
pub record AreCreators {A : Type 0} (states : List (Option A)) (told rest : List Letter) (ids : List ActorId) : Type 0 where
  pub ascending : Ascend ids
  pub before : All (λ c. All (λ k. c.0 ≤ k.to.0) rest) ids
  pub each : (id : ActorId) → is_among ids id ≡ (is_alive states id && has_some told id)

pub creators_more : {A : Type 0} (states : List (Option A)) (bs : List Letter) (l : Letter) (rest : List Letter) (ids : List ActorId)
    → AreCreators states bs (l ∷ rest) ids
    → All (λ k. l.to.0 ≤ k.to.0) rest → AreCreators states (bs ++ l ∷ []) rest (ids_after states ids l.to)
creators_more {A} states bs l rest ids h later = by (is_alive states l.to) (is_last ids l.to) refl refl
  where
    id : ActorId
    id = l.to

    fits : All (λ c. c.0 ≤ id.0) ids
    fits = All-weaker (λ (c : ActorId). All (λ (k : Letter). c.0 ≤ k.to.0) (l ∷ rest)) (λ (c : ActorId). c.0 ≤ id.0)
        (λ c all. all 0 l (omega arith)) ids h.before

    past : All (λ c. All (λ k. c.0 ≤ k.to.0) rest) ids
    past = All-weaker (λ (c : ActorId). All (λ (k : Letter). c.0 ≤ k.to.0) (l ∷ rest)) (λ (c : ActorId). All (λ (k : Letter). c.0 ≤ k.to.0) rest)
        (λ c all. All-tail (λ (k : Letter). c.0 ≤ k.to.0) l rest all) ids h.before

    known : (a : ActorId) → is_alive states id ≡ true → is_among ids id ≡ true → is_among ids a ≡ (is_alive states a && has_some (bs ++ l ∷ []) a)
    known a lives there = step (nat_eq id.0 a.0) refl ∙ ap (λ (b : Bool). is_alive states a && b) (sym (some_more bs l a))
      where
        step : (b : Bool) → nat_eq id.0 a.0 ≡ b → is_among ids a ≡ (is_alive states a && (has_some bs a || b))
        step true e =
            let same : id ≡ a = id_same id a (grind (arith, nat_tests, e)) in
            let alive : is_alive states a ≡ true = subst (λ (k : ActorId). is_alive states k ≡ true) same lives in
            let among : is_among ids a ≡ true = subst (λ (k : ActorId). is_among ids k ≡ true) same there in
            among ∙ sym (rw alive (or_true (has_some bs a)))
          where
            or_true : (b : Bool) → (b || true) ≡ true
            or_true true = refl
            or_true false = refl
        step false e = h.each a ∙ ap (λ (b : Bool). is_alive states a && b) (sym (or_false (has_some bs a)))
          where
            or_false : (b : Bool) → (b || false) ≡ b
            or_false true = refl
            or_false false = refl

    dead : (a : ActorId) → is_alive states id ≡ false → is_among ids a ≡ (is_alive states a && has_some (bs ++ l ∷ []) a)
    dead a dies = step (nat_eq id.0 a.0) refl ∙ ap (λ (b : Bool). is_alive states a && b) (sym (some_more bs l a))
      where
        step : (b : Bool) → nat_eq id.0 a.0 ≡ b → is_among ids a ≡ (is_alive states a && (has_some bs a || b))
        step true e =
            let same : id ≡ a = id_same id a (grind (arith, nat_tests, e)) in
            let gone : is_alive states a ≡ false = subst (λ (k : ActorId). is_alive states k ≡ false) same dies in
            h.each a ∙ rw gone refl
        step false e = h.each a ∙ ap (λ (b : Bool). is_alive states a && b) (sym (or_false (has_some bs a)))
          where
            or_false : (b : Bool) → (b || false) ≡ b
            or_false true = refl
            or_false false = refl

    pushed : (a : ActorId) → is_alive states id ≡ true → is_among (ids ++ id ∷ []) a ≡ (is_alive states a && has_some (bs ++ l ∷ []) a)
    pushed a lives =
        list_any-append (λ k. nat_eq k.0 a.0) ids (id ∷ [])
        ∙ step (nat_eq id.0 a.0) refl
        ∙ ap (λ (b : Bool). is_alive states a && b) (sym (some_more bs l a))
      where
        step : (b : Bool) → nat_eq id.0 a.0 ≡ b → (is_among ids a || (b || false)) ≡ (is_alive states a && (has_some bs a || b))
        step true e =
            let same : id ≡ a = id_same id a (grind (arith, nat_tests, e)) in
            let alive : is_alive states a ≡ true = subst (λ (k : ActorId). is_alive states k ≡ true) same lives in
            or_true (is_among ids a) ∙ sym (rw alive (or_true (has_some bs a)))
          where
            or_true : (b : Bool) → (b || true) ≡ true
            or_true true = refl
            or_true false = refl
        step false e = or_false (is_among ids a) ∙ h.each a ∙ ap (λ (b : Bool). is_alive states a && b) (sym (or_false (has_some bs a)))
          where
            or_false : (b : Bool) → (b || false) ≡ b
            or_false true = refl
            or_false false = refl

    alone : (P : ActorId → Type 0) → P id → All P (id ∷ [])
    alone P p zero d lt = p
    alone P p (suc k) d lt = absurd (omega (arith, lt))

    by : (b c : Bool) → is_alive states id ≡ b → is_last ids id ≡ c → AreCreators states (bs ++ l ∷ []) rest (cond (b && not c) (ids ++ id ∷ []) ids)
    by true false e f = record {
      ascending = pairs_append (λ (a b : ActorId). a.0 < b.0) ids (id ∷ []) h.ascending (λ i j d lt le. absurd (omega (arith, lt, le)))
          (All-weaker (λ (c : ActorId). c.0 < id.0) (λ (c : ActorId). All (λ (k : ActorId). c.0 < k.0) (id ∷ []))
          (λ c lt. alone (λ k. c.0 < k.0) lt) ids (all_below ids id h.ascending fits f));
      before = All-append (λ (c : ActorId). All (λ (k : Letter). c.0 ≤ k.to.0) rest) ids (id ∷ []) past
          (alone (λ c. All (λ (k : Letter). c.0 ≤ k.to.0) rest) later);
      each = λ a. pushed a e;
    }
    by true true e f = record { ascending = h.ascending; before = past; each = λ a. known a e (last_among ids id f) }
    by false c e f = record { ascending = h.ascending; before = past; each = λ a. dead a e }

-- ---- recipients

among_contains : (ids : List ActorId) (id : ActorId) → is_among ids id ≡ true → Contains ids id
among_contains [] id h = absurd (cc)
among_contains (k ∷ ids) id h = told (nat_eq k.0 id.0) refl h (λ t. among_contains ids id t)
  where
    told : (b : Bool) → nat_eq k.0 id.0 ≡ b → (b || is_among ids id) ≡ true → (is_among ids id ≡ true → Contains ids id) → Contains (k ∷ ids) id
    told true e t more = (0, omega arith, id_same k id (grind (arith, nat_tests, e)))
    told false e t more = let there = more t in (suc there.0, omega (arith, there.1), there.2)

both_or_neither : (a b : Bool) → (a ≡ true → b ≡ true) → (b ≡ true → a ≡ true) → a ≡ b
both_or_neither true b f g = sym (f refl)
both_or_neither false true f g = g refl
both_or_neither false false f g = refl

among_living : {A : Type 0} (states : List (Option A)) (ids : List ActorId) (id : ActorId)
    → is_among (filter (λ r. is_alive states r) ids) id ≡ (is_alive states id && is_among ids id)
among_living states [] id = none (is_alive states id)
  where
    none : (b : Bool) → false ≡ (b && false)
    none true = refl
    none false = refl
among_living {A} states (k ∷ ids) id = told (is_alive states k) (nat_eq k.0 id.0) (is_alive states id) refl refl refl (among_living states ids id)
  where
    same : nat_eq k.0 id.0 ≡ true → is_alive states k ≡ is_alive states id
    same e = ap (λ (a : ActorId). is_alive states a) (id_same k id (grind (arith, nat_tests, e)))

    told : (b c d : Bool) → is_alive states k ≡ b → nat_eq k.0 id.0 ≡ c → is_alive states id ≡ d
        → is_among (filter (λ r. is_alive states r) ids) id ≡ (d && is_among ids id)
        → is_among (cond b (k ∷ filter (λ r. is_alive states r) ids) (filter (λ r. is_alive states r) ids)) id ≡ (d && (c || is_among ids id))
    told true true true e f g h = rw f refl
    told true true false e f g h = let q : is_alive states k ≡ is_alive states id = same f in absurd (cc)
    told false true true e f g h = let q : is_alive states k ≡ is_alive states id = same f in absurd (cc)
    told false true false e f g h = h
    told true false d e f g h = rw f h
    told false false d e f g h = h

pub recipients_are : {A : Type 0} (states : List (Option A)) (inboxes : List Letter) (rs : List ActorId) (id : ActorId)
    → ((to : ActorId) → (Contains rs to → 0 < length (inbox_of inboxes to)) × (0 < length (inbox_of inboxes to) → Contains rs to))
    → is_among (filter (λ r. is_alive states r) rs) id ≡ (is_alive states id && has_some inboxes id)
recipients_are states inboxes rs id each =
    among_living states rs id ∙ ap (λ (b : Bool). is_alive states id && b) (both_or_neither (is_among rs id) (has_some inboxes id)
    (λ t. some_filtered inboxes id ∙ (let some : 0 < length (inbox_of inboxes id) = (each id).0 (among_contains rs id t) in grind (arith, nat_tests, some)))
    (λ t. contains_among rs id ((each id).1 (let some : nat_lt 0 (length (inbox_of inboxes id)) ≡ true = sym (some_filtered inboxes id)
    ∙ t in grind (arith, nat_tests, some)))))

-- ---- those who are called

pub called_among : (newborn recipients creators : List ActorId) (id : ActorId)
    → is_among (in_order_once (newborn ++ in_order_once (recipients ++ creators))) id ≡
    (is_among newborn id || (is_among recipients id || is_among creators id))
called_among newborn recipients creators id =
    among-in_order (newborn ++ in_order_once (recipients ++ creators)) id
    ∙ list_any-append (λ k. nat_eq k.0 id.0) newborn (in_order_once (recipients ++ creators))
    ∙ ap (λ (b : Bool). is_among newborn id || b) (among-in_order (recipients ++ creators) id ∙ list_any-append (λ k. nat_eq k.0 id.0) recipients creators)
