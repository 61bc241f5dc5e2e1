-- A generated scenario is a scenario.
use Rattle.std.proofs.Common.{◌≡◌, inl, ℕ, zero, suc, ◌+◌, ◌*◌, ◌%◌, ◌<◌, ◌≤◌, ◌^◌, ◌==◌, List, [], ◌∷◌, ◌++◌, map, length}
use Rattle.std.proofs.Common.{get_or, Option, Some, None, Bool, true, false, cond, bytes_eq, refl, sym, ap, ◌∙◌, arith, append_assoc, append-nil, drop, subst, lit≤}
use Rattle.std.proofs.lemmas.Bool.{le-leb}
use Rattle.std.proofs.lemmas.Bool.Decides.{nat_tests}
use Rattle.std.proofs.lemmas.Fmt.{decimal-digits_of, decimal_digit, decimal_injective, length-decimal-le}
use Rattle.std.proofs.lemmas.Int.Digits.{all_below_base_digits_of}
use Rattle.std.proofs.lemmas.List.{length-append, map-append}
use Rattle.std.proofs.lemmas.Nat.{mod_below}
use Rattle.std.specs.Fmt.{decimal}
use Rattle.std.specs.Int.Digits.{digits_of}
use Rattle.std.specs.List.{AllByRecursion, list_all}
use Rattle.sim_base.specs.Names.{is_name, is_name_byte, name_of}
use Rattle.sim_model.specs.declared.setup.Start.{Start}
use Rattle.scenario.specs.Generated.{first_groups, generated, group, member, numbered}
use Rattle.scenario.specs.Names.{place_from, place_in}
use Rattle.scenario.specs.Table.{most, most_cans}
use Rattle.scenario.specs.Valid.{AreNamed, AreOpening, IsActor, IsScenario, names_in}
use Rattle.scenario.specs.declared.any_actor.AnyActor.{AnyActor}
use Rattle.scenario.specs.declared.contents.Content.TheVariants.{Number, Actor, Route}
use Rattle.scenario.specs.declared.table.Kind.TheVariants as kind
use Rattle.scenario.proofs.Placing.{bytes_eq-same, place_in-append}

-- ---- names are names

digit_named : (d : ℕ) → d < 10 → is_name_byte (48 + d) ≡ true
digit_named d h = grind (arith, nat_tests)

digits_named : (ds : List ℕ) → AllByRecursion (λ d. d < 10) ds → list_all is_name_byte (map (λ d. 48 + d) ds) ≡ true
digits_named [] h = refl
digits_named (d ∷ ds) h = rw (digit_named d h.0) (digits_named ds h.1)

decimal_named : (n : ℕ) → n < 2 ^ 64 → list_all is_name_byte (decimal n) ≡ true
decimal_named zero small = rw (decimal_digit 0 (lit≤ tt)) refl
decimal_named (suc n) small =
    ap (list_all is_name_byte) (decimal-digits_of (suc n) (omega arith) small) ∙ digits_named (digits_of 10 (suc n)) (all_below_base_digits_of 10 (suc n) (lit≤ tt))

letter_named : (b : ℕ) → 97 ≤ b → b ≤ 122 → is_name_byte b ≡ true
letter_named b low high = grind (arith, nat_tests)

pub numbered_name : (letter g : ℕ) → 97 ≤ letter → letter ≤ 122 → g < 2 ^ 32 → is_name (numbered letter g) ≡ true
numbered_name letter g low high small =
    let short = length-decimal-le 10 g (lit≤ tt) (omega arith) (omega arith) in
    rw (
      le-leb 1 (length (numbered letter g)) (omega arith),
      le-leb (length (numbered letter g)) 32 (omega (arith, short)),
      letter_named letter low high,
      decimal_named g (omega arith),
    ) refl

some_named : (bs : List ℕ) → is_name bs ≡ true → name_of bs ≡ Some bs
some_named bs h = rw h refl

-- a generated name is read
pub numbered_read : (letter g : ℕ) (bs : List ℕ) (o : Option (List ℕ)) → 97 ≤ letter → letter ≤ 122 → g < 2 ^ 32 → bs ≡ numbered letter g → o ≡ name_of bs → o ≡ Some (numbered letter g)
numbered_read letter g bs o low high small is read = read ∙ ap name_of is ∙ some_named (numbered letter g) (numbered_name letter g low high small)

-- one group more
pub first_more : (n g : ℕ) → first_groups n (g + 1) ≡ first_groups n g ++ group g ((g + 1) % n)
first_more n g = let one : g + 1 ≡ suc g = omega arith in ap (first_groups n) one

-- ---- names differ

abbrev letters : List ℕ
letters = 109 ∷ 97 ∷ 98 ∷ 111 ∷ 99 ∷ 100 ∷ 101 ∷ 102 ∷ 119 ∷ 107 ∷ []

abbrev group_names : ℕ → List ℕ → List (List ℕ)
group_names g ls = map (λ l. numbered l g) ls

abbrev first_names : ℕ → List (List ℕ)
first_names zero = []
first_names (suc g) = first_names g ++ group_names g letters

names_of_groups : (n g : ℕ) → names_in (first_groups n g) ≡ first_names g
names_of_groups n zero = refl
names_of_groups n (suc g) =
    map-append (λ (s : Start AnyActor). s.name) (first_groups n g) (group g ((g + 1) % n)) ∙ ap (λ ns. ns ++ group_names g letters) (names_of_groups n g)

not_same : (xs ys : List ℕ) → (xs ≡ ys → ⊥) → (b : Bool) → bytes_eq xs ys ≡ b → b ≡ false
not_same xs ys apart false e = refl
not_same xs ys apart true e = absurd (apart (bytes_eq-same xs ys e))

number_of : (l m g h : ℕ) → g < 2 ^ 64 → h < 2 ^ 64 → numbered l g ≡ numbered m h → g ≡ h
number_of l m g h small too e = decimal_injective g h small too (ap (λ bs. drop 2 bs) e)

letter_of : (l m g h : ℕ) → numbered l g ≡ numbered m h → l ≡ m
letter_of l m g h e = ap (λ bs. get_or bs 0 0) e

none_more : (i : ℕ) (ns ms : List (List ℕ)) (q : List ℕ) → place_from i ns q ≡ None → ((j : ℕ) → place_from j ms q ≡ None) → place_from i (ns ++ ms) q ≡ None
none_more i [] ms q none more = more i
none_more i (n ∷ ns) ms q none more = here (bytes_eq n q) none (none_more (i + 1) ns ms q)
  where
    here : (b : Bool) → cond b (Some i) (place_from (i + 1) ns q) ≡ None → (place_from (i + 1) ns q ≡ None → ((j : ℕ) → place_from j ms q ≡ None) → place_from (i + 1) (ns ++ ms) q ≡ None)
        → cond b (Some i) (place_from (i + 1) (ns ++ ms) q) ≡ None
    here true none rest = absurd (cc)
    here false none rest = rest none more

none_in_group : (ls : List ℕ) (g l h j : ℕ) → g < h → h < 2 ^ 64 → place_from j (group_names g ls) (numbered l h) ≡ None
none_in_group [] g l h j below small = refl
none_in_group (m ∷ ls) g l h j below small =
    rw (not_same (numbered m g) (numbered l h) (λ e. let same = number_of m l g h (omega arith) small e in absurd (omega arith)) (bytes_eq (numbered m g) (numbered l h)) refl)
    (none_in_group ls g l h (j + 1) below small)

none_before : (g l h : ℕ) → g ≤ h → h < 2 ^ 64 → place_in (first_names g) (numbered l h) ≡ None
none_before zero l h below small = refl
none_before (suc g) l h below small = none_more 1 (first_names g) (group_names g letters) (numbered l h) (none_before g l h (omega arith) small) (λ j. none_in_group letters g l h j (omega arith) small)

named_more : (earlier ns ms : List (List ℕ)) → AreNamed earlier ns → AreNamed (earlier ++ ns) ms → AreNamed earlier (ns ++ ms)
named_more earlier [] ms first rest = subst (λ (e : List (List ℕ)). AreNamed e ms) (append-nil earlier) rest
named_more earlier (n ∷ ns) ms first rest =
    (first.0, first.1, named_more (earlier ++ n ∷ []) ns ms first.2 (subst (λ (e : List (List ℕ)). AreNamed e ms) (sym (append_assoc earlier (n ∷ []) ns)) rest))

-- a letter is none of these
abbrev NotAmong : ℕ → List ℕ → Type 0
NotAmong l [] = Unit {0}
NotAmong l (m ∷ ls) = ((l == m) ≡ false) × NotAmong l ls

-- letters that differ from one another
abbrev AreLetters : List ℕ → Type 0
AreLetters [] = Unit {0}
AreLetters (l ∷ ls) = (97 ≤ l) × (l ≤ 122) × NotAmong l ls × AreLetters ls

are_letters : AreLetters letters
are_letters = (
  lit≤ tt,
  lit≤ tt,
  (refl, (refl, (refl, (refl, (refl, (refl, (refl, (refl, (refl, tt))))))))),
  (
    lit≤ tt,
    lit≤ tt,
    (refl, (refl, (refl, (refl, (refl, (refl, (refl, (refl, tt)))))))),
    (
      lit≤ tt,
      lit≤ tt,
      (refl, (refl, (refl, (refl, (refl, (refl, (refl, tt))))))),
      (
        lit≤ tt,
        lit≤ tt,
        (refl, (refl, (refl, (refl, (refl, (refl, tt)))))),
        (
          lit≤ tt,
          lit≤ tt,
          (refl, (refl, (refl, (refl, (refl, tt))))),
          (
            lit≤ tt,
            lit≤ tt,
            (refl, (refl, (refl, (refl, tt)))),
            (
              lit≤ tt,
              lit≤ tt,
              (refl, (refl, (refl, tt))),
              (
                lit≤ tt,
                lit≤ tt,
                (refl, (refl, tt)),
                (
                  lit≤ tt,
                  lit≤ tt,
                  (refl, tt),
                  (
                    lit≤ tt,
                    lit≤ tt,
                    tt,
                    tt,
                  ),
                ),
              ),
            ),
          ),
        ),
      ),
    ),
  ),
)

-- the names of these letters are none of the earlier ones
abbrev AreNew : ℕ → List (List ℕ) → List ℕ → Type 0
AreNew g earlier [] = Unit {0}
AreNew g earlier (l ∷ ls) = (place_in earlier (numbered l g) ≡ None) × AreNew g earlier ls

all_new : (g : ℕ) (ls : List ℕ) → g < 2 ^ 64 → AreNew g (first_names g) ls
all_new g [] small = tt
all_new g (l ∷ ls) small = (none_before g l g (omega arith) small, all_new g ls small)

differ : (l m : ℕ) → (l == m) ≡ false → l ≡ m → ⊥
differ l m apart same = grind (arith, nat_tests)

new_more : (g l : ℕ) (earlier : List (List ℕ)) (ls : List ℕ) → NotAmong l ls → place_in earlier (numbered l g) ≡ None → AreNew g earlier ls → AreNew g (earlier ++ numbered l g ∷ []) ls
new_more g l earlier [] apart none new = tt
new_more g l earlier (m ∷ ls) apart none new =
    let other = not_same (numbered l g) (numbered m g) (λ e. differ l m apart.0 (letter_of l m g g e)) (bytes_eq (numbered l g) (numbered m g)) refl in (
      place_in-append earlier (numbered l g) (numbered m g) (length earlier + 1) none refl ∙ ap (λ b. cond b (Some (length earlier + 1)) (place_in earlier (numbered m g))) other ∙ new.0,
      new_more g l earlier ls apart.1 none new.1,
    )

group_named : (g : ℕ) (earlier : List (List ℕ)) (ls : List ℕ) → g < 2 ^ 32 → AreLetters ls → AreNew g earlier ls → AreNamed earlier (group_names g ls)
group_named g earlier [] small good new = tt
group_named g earlier (l ∷ ls) small good new =
    (numbered_name l g good.0 good.1 small, new.0, group_named g (earlier ++ numbered l g ∷ []) ls small good.3 (new_more g l earlier ls good.2 new.0 new.1))

all_named : (g : ℕ) → g ≤ 10000 → AreNamed [] (first_names g)
all_named zero few = tt
all_named (suc g) few =
    named_more [] (first_names g) (group_names g letters) (all_named g (omega arith)) (group_named g (first_names g) letters (omega arith) are_letters (all_new g letters (omega arith)))

-- ---- states

count_groups : (n g : ℕ) → length (first_groups n g) ≡ 10 * g
count_groups n zero = refl
count_groups n (suc g) = length-append (first_groups n g) (group g ((g + 1) % n)) ∙ omega (arith, count_groups n g)

opening_more : (count : ℕ) (ss us : List (Start AnyActor)) → AreOpening count ss → AreOpening count us → AreOpening count (ss ++ us)
opening_more count [] us first rest = rest
opening_more count (s ∷ ss) us first rest = (first.0, opening_more count ss us first.1 rest)

is_member : (n g place : ℕ) → g < n → 1 ≤ place → place ≤ 10 → IsActor (10 * n) (member g place)
is_member n g place below least most = record { first = omega arith; last = omega arith }

group_opening : (n g h : ℕ) → g < n → h < n → AreOpening (10 * n) (group g h)
group_opening n g h below next =
    let a : 3 + g % 5 ≤ most_cans = omega (arith, mod_below g 5 (lit≤ tt)) in
    let own = is_member n g 1 below (lit≤ tt) (lit≤ tt) in
    let other = is_member n h 1 next (lit≤ tt) (lit≤ tt) in (
      record {
        kind = kind.Machine;
        contents = Number 20 ∷ Number 2 ∷ Number 0 ∷ [];
        fits = ((lit≤ tt, lit≤ tt), ((lit≤ tt, lit≤ tt), ((lit≤ tt, lit≤ tt), tt)));
        within = (tt, (tt, (tt, tt)));
        built = refl;
      },
      (
        record { kind = kind.Road; contents = Number (3 + g % 5) ∷ Number 2 ∷ []; fits = ((omega arith, a), ((lit≤ tt, lit≤ tt), tt)); within = (tt, (tt, tt)); built = refl },
        (
          record { kind = kind.Road; contents = Number 2 ∷ Number 1 ∷ []; fits = ((lit≤ tt, lit≤ tt), ((lit≤ tt, lit≤ tt), tt)); within = (tt, (tt, tt)); built = refl },
          (
            record {
              kind = kind.Origin;
              contents = Route (member g 2 ∷ member g 3 ∷ member h 2 ∷ []) ∷ Number 7 ∷ Number 5 ∷ [];
              fits = ((lit≤ tt, lit≤ tt), ((lit≤ tt, lit≤ tt), ((lit≤ tt, lit≤ tt), tt)));
              within = ((is_member n g 2 below (lit≤ tt) (lit≤ tt), (is_member n g 3 below (lit≤ tt) (lit≤ tt), (is_member n h 2 next (lit≤ tt) (lit≤ tt), tt))), (tt, (tt, tt)));
              built = refl;
            },
            (
              record {
                kind = kind.Customer;
                contents = Actor (member g 1) ∷ Number 10 ∷ Number 100 ∷ Number 2 ∷ [];
                fits = (tt, ((lit≤ tt, lit≤ tt), ((lit≤ tt, lit≤ tt), ((lit≤ tt, lit≤ tt), tt))));
                within = (own, (tt, (tt, (tt, tt))));
                built = refl;
              },
              (
                record {
                  kind = kind.Customer;
                  contents = Actor (member h 1) ∷ Number 10 ∷ Number 100 ∷ Number 3 ∷ [];
                  fits = (tt, ((lit≤ tt, lit≤ tt), ((lit≤ tt, lit≤ tt), ((lit≤ tt, lit≤ tt), tt))));
                  within = (other, (tt, (tt, (tt, tt))));
                  built = refl;
                },
                (
                  record {
                    kind = kind.RandomCustomer;
                    contents = Actor (member g 1) ∷ Number 1 ∷ Number 20 ∷ Number 60 ∷ Number 2 ∷ [];
                    fits = (tt, ((lit≤ tt, lit≤ tt), ((lit≤ tt, lit≤ tt), ((lit≤ tt, lit≤ tt), ((lit≤ tt, lit≤ tt), tt)))));
                    within = (own, (tt, (tt, (tt, (tt, tt)))));
                    built = refl;
                  },
                  (
                    record {
                      kind = kind.RandomCustomer;
                      contents = Actor (member h 1) ∷ Number 5 ∷ Number 15 ∷ Number 60 ∷ Number 5 ∷ [];
                      fits = (tt, ((lit≤ tt, lit≤ tt), ((lit≤ tt, lit≤ tt), ((lit≤ tt, lit≤ tt), ((lit≤ tt, lit≤ tt), tt)))));
                      within = (other, (tt, (tt, (tt, (tt, tt)))));
                      built = refl;
                    },
                    (
                      record {
                        kind = kind.Depot;
                        contents = Actor (member g 1) ∷ Number 40 ∷ Number 2 ∷ Number 10 ∷ [];
                        fits = (tt, ((lit≤ tt, lit≤ tt), ((lit≤ tt, lit≤ tt), ((lit≤ tt, lit≤ tt), tt))));
                        within = (own, (tt, (tt, (tt, tt))));
                        built = refl;
                      },
                      (
                        record { kind = kind.Clock; contents = Number 25 ∷ Number 4 ∷ []; fits = ((lit≤ tt, lit≤ tt), ((lit≤ tt, lit≤ tt), tt)); within = (tt, (tt, tt)); built = refl },
                        tt,
                      ),
                    ),
                  ),
                ),
              ),
            ),
          ),
        ),
      ),
    )

all_opening : (n g : ℕ) → 0 < n → g ≤ n → AreOpening (10 * n) (first_groups n g)
all_opening n zero some few = tt
all_opening n (suc g) some few =
    opening_more (10 * n) (first_groups n g) (group g ((g + 1) % n)) (all_opening n g some (omega arith)) (group_opening n g ((g + 1) % n) (omega arith) (mod_below (g + 1) n some))

-- ---- the whole

pub generated-ok : (n : ℕ) → 1 ≤ n → n ≤ 10000 → IsScenario (generated n)
generated-ok n some few =
    let count = count_groups n n in
    record {
      format = inl refl;
      setup = record {
        seed = omega arith;
        last_tick = lit≤ tt;
        some_diasca = lit≤ tt;
        diasca_limit = lit≤ tt;
        some_actor = lit≤ tt;
        max_actors = lit≤ tt;
        actors = omega (arith, count);
        urgent = (λ k within. absurd (omega arith));
        known = (λ i d within. absurd (omega arith));
      };
      room = lit≤ tt;
      none_urgent = λ first. refl;
      few_urgent = lit≤ tt;
      few_rules = lit≤ tt;
      rules = refl;
      names = subst (AreNamed []) (sym (names_of_groups n n)) (all_named n few);
      states = subst (λ c. AreOpening c (first_groups n n)) (sym count) (all_opening n n (omega arith) (omega arith));
    }
