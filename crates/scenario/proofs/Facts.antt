-- What a reading that succeeds has found.
use Rattle.std.proofs.Common.{◌≡◌, ◌⊎◌, inl, inr, ℕ, zero, suc, ◌+◌, ◌<◌, ◌≤◌, ◌==◌, List, [], ◌∷◌, ◌++◌, length, get_or, Result}
use Rattle.std.proofs.Common.{Ok, Err, Option, Some, None, Bool, true, false, codes, if◌then◌else◌, nat_lt, refl, sym, ap, ◌∙◌, arith, nat_le, subst, lit≤}
use Rattle.std.proofs.lemmas.Bool.{leb-true}
use Rattle.std.proofs.lemmas.Bool.Decides.{nat_tests}
use Rattle.std.proofs.lemmas.List.Kept.{AllPairs-cons}
use Rattle.std.specs.List.{All}
use Rattle.std.specs.Option.{is_none}
use Rattle.serde_json.specs.Data.{Data, Items, no_items, item}
use Rattle.serde_json.specs.Events.{items_len}
use Rattle.serde_json.specs.Find.{get, as_array, as_object}
use Rattle.result_store.specs.RuleParts.{RuleParts}
use Rattle.result_store.specs.Rules.{rules_of}
use Rattle.sim_base.specs.Names.{is_name}
use Rattle.sim_base.specs.declared.ids.ActorId.{ActorId}
use Rattle.actor_trait.specs.InboxOrder.{AreUrgent}
use Rattle.sim_model.specs.Setups.{Ascend}
use Rattle.sim_model.specs.declared.setup.Start.{Start}
use Rattle.sim_model.proofs.Ascending.{pairs_nil, to_increasing}
use Rattle.scenario.specs.Actors.{actor_of, check_of, kind_of, name_of, names_of, starts_of}
use Rattle.scenario.specs.Answers.{or_else, place_of, unless}
use Rattle.scenario.specs.Build.{build}
use Rattle.scenario.specs.Fields.{no_unknown, number_at, number_or, text_at, texts_at, texts_or, unless_there}
use Rattle.scenario.specs.Format.{is_object, items_in, limits_of, most_actors, scenario_in}
use Rattle.scenario.specs.Names.{place_in}
use Rattle.scenario.specs.Reading.{contents_at, look_all}
use Rattle.scenario.specs.ScenarioParts.{ScenarioParts}
use Rattle.scenario.specs.Selection.{bad_rule, results_of, rules_in}
use Rattle.scenario.specs.Table.{fields_of, most}
use Rattle.scenario.specs.Urgent.{ascending, urgent_texts, with_actor}
use Rattle.scenario.specs.Valid.{AreActors, AreNamed, AreOpening, IsActor, IsOpening, IsScenario, names_in}
use Rattle.scenario.specs.declared.any_actor.AnyActor.{AnyActor}
use Rattle.scenario.specs.declared.fields.Owner.TheVariants as owner
use Rattle.scenario.specs.declared.reading.Pass.TheVariants as pass
use Rattle.scenario.specs.declared.refusal.Refusal.{Refusal}
use Rattle.scenario.specs.declared.refusal.Refusal.TheVariants.{BadName, Missing, TooManyActors, Twice, UnknownField, WrongType}
use Rattle.scenario.specs.declared.whole.Limits.{Limits}
use Rattle.scenario.proofs.ReadFits.{all_fit, all_found_within, all_within, as_many, both, number_fits, ok_same, texts_fit, unless_ok}

or_there : {A : Type 0} (P : A → Type 0) (default : A) (there : Result A Refusal) (o : Option Data) (a : A) → P default → (there ≡ Ok a → P a) → unless_there (Ok default) there o ≡ Ok a → P a
or_there P default there None a good found h = subst P (ok_same default a h) good
or_there P default there (Some d) a good found h = found h

number_or-range : (field : List ℕ) (default low high : ℕ) (d : Data) (n : ℕ) → low ≤ default → default ≤ high → number_or field default low high d ≡ Ok n → (low ≤ n) × (n ≤ high)
unfolding number_or
number_or-range field default low high d n from to h = or_there (λ n. (low ≤ n) × (n ≤ high)) default (number_at 0 field low high d) (get field d) n (from, to) (number_fits 0 field low high d n) h

texts_or-few : (field : List ℕ) (default : List (List ℕ)) (many : ℕ) (d : Data) (ts : List (List ℕ)) → length default ≤ many → texts_or field default many d ≡ Ok ts → length ts ≤ many
unfolding texts_or
texts_or-few field default many d ts few h =
    or_there (λ (ts : List (List ℕ)). length ts ≤ many) default (texts_at 0 field 0 many d) (get field d) ts few (λ h. (texts_fit 0 field 0 many d ts h).1) h

-- ---- names

none_from : (o : Option ℕ) → is_none o ≡ true → o ≡ None
none_from None h = refl
none_from (Some x) h = absurd (cc)

name_of-ok : (earlier : List (List ℕ)) (id : ℕ) (d : Data) (name : List ℕ) → name_of earlier id d ≡ Ok name → (is_name name ≡ true) × (place_in earlier name ≡ None)
unfolding name_of
name_of-ok earlier id d name h =
    let text = both (text_at id (codes "name") d) _ name h in
    let good = both (unless (is_name text.value) (BadName id)) _ name text.second in
    let new = both (unless (is_none (place_in earlier text.value)) (Twice text.value)) _ name good.second in
    let same = ok_same text.value name new.second in (
      ap is_name (sym same) ∙ unless_ok (is_name text.value) (BadName id) good.value good.first,
      ap (place_in earlier) (sym same) ∙ none_from _ (unless_ok (is_none (place_in earlier text.value)) (Twice text.value) new.value new.first),
    )

check_of-ok : (earlier : List (List ℕ)) (id : ℕ) (d : Data) (name : List ℕ) → check_of earlier id d ≡ Ok name → (is_name name ≡ true) × (place_in earlier name ≡ None)
unfolding check_of
check_of-ok earlier id d name h =
    let object = both (or_else (WrongType (place_of id [])) (as_object d)) _ name h in
    let found = both (name_of earlier id d) _ name object.second in
    let kind = both (kind_of id d) _ name found.second in
    let known = both (no_unknown (owner.Actor kind.value) id d) _ name kind.second in
    let contents = both (contents_at pass.Check earlier id d 0 (fields_of kind.value)) _ name known.second in
    subst (λ (n : List ℕ). (is_name n ≡ true) × (place_in earlier n ≡ None)) (ok_same found.value name contents.second) (name_of-ok earlier id d found.value found.first)

names_of-ok : (earlier : List (List ℕ)) (id : ℕ) (ds : Items) (ns : List (List ℕ)) → names_of earlier id ds ≡ Ok ns → AreNamed earlier ns × (length ns ≡ items_len ds)
names_of-ok earlier id no_items ns h = subst (λ (ns : List (List ℕ)). AreNamed earlier ns × (length ns ≡ 0)) (ok_same [] ns h) (tt, refl)
names_of-ok earlier id (item d ds) ns h =
    let first = both (check_of earlier id d) _ ns h in
    let rest = both (names_of (earlier ++ first.value ∷ []) (id + 1) ds) _ ns first.second in
    let name = check_of-ok earlier id d first.value first.first in
    let more = names_of-ok (earlier ++ first.value ∷ []) (id + 1) ds rest.value rest.first in
    subst (λ (ns : List (List ℕ)). AreNamed earlier ns × (length ns ≡ items_len (item d ds))) (ok_same (first.value ∷ rest.value) ns rest.second)
    ((name.0, name.1, more.0), ap suc more.1)

-- ---- finished actors

actor_of-ok : (names : List (List ℕ)) (id : ℕ) (d : Data) (a : AnyActor) → actor_of names id d ≡ Ok a → IsOpening (length names) a
unfolding actor_of
actor_of-ok names id d a h =
    let kind = both (kind_of id d) _ a h in
    let contents = both (contents_at pass.Finish names id d 0 (fields_of kind.value)) _ a kind.second in
    record {
      kind = kind.value;
      contents = contents.value;
      fits = all_fit pass.Finish names id d 0 (fields_of kind.value) contents.value contents.first;
      within = all_within names id d 0 (fields_of kind.value) contents.value contents.first;
      built = ok_same (build kind.value contents.value) a contents.second;
    }

-- as many as their names
pub record Started (count : ℕ) (own : List (List ℕ)) (ss : List (Start AnyActor)) : Type 0 where
  pub names : names_in ss ≡ own
  pub opening : AreOpening count ss

starts_of-ok : (names : List (List ℕ)) (id : ℕ) (own : List (List ℕ)) (ds : Items) (ss : List (Start AnyActor)) → length own ≡ items_len ds → starts_of names id own ds ≡ Ok ss → Started (length names) own ss
starts_of-ok names id [] ds ss len h = subst (Started (length names) []) (ok_same [] ss h) (record { names = refl; opening = tt })
starts_of-ok names id (n ∷ own) no_items ss len h = absurd (omega arith)
starts_of-ok names id (n ∷ own) (item d ds) ss len h =
    let first = both (actor_of names id d) _ ss h in
    let rest = both (starts_of names (id + 1) own ds) _ ss first.second in
    let more = starts_of-ok names (id + 1) own ds rest.value (omega arith) rest.first in
    let made : Start AnyActor = record { name = n; state = first.value } in
    subst (Started (length names) (n ∷ own)) (ok_same (made ∷ rest.value) ss rest.second)
    (record { names = ap (λ ns. n ∷ ns) more.names; opening = (actor_of-ok names id d first.value first.first, more.opening) })

count_names : (ss : List (Start AnyActor)) → length (names_in ss) ≡ length ss
count_names [] = refl
count_names (s ∷ ss) = ap suc (count_names ss)

-- ---- urgent senders

-- ascending actors, of which the first is above one
abbrev Rise : ℕ → List ActorId → Type 0
Rise low [] = Unit {0}
Rise low (a ∷ ids) = (low < a.0) × Rise a.0 ids

abbrev Rising : List ActorId → Type 0
Rising [] = Unit {0}
Rising (a ∷ ids) = Rise a.0 ids

is_below : (m n : ℕ) → nat_lt m n ≡ true → m < n
is_below m n h = grind (arith, nat_tests)

is_above : (m n : ℕ) → nat_lt m n ≡ false → (m == n) ≡ false → n < m
is_above m n h s = grind (arith, nat_tests)

rise_with : (low : ℕ) (a : ActorId) (ids : List ActorId) → low < a.0 → Rise low ids → Rise low (with_actor a ids)
rise_with low a [] above rise = (above, tt)
rise_with low a (b ∷ ids) above rise = here (nat_lt a.0 b.0) (a.0 == b.0) refl refl (λ after. rise_with b.0 a ids after rise.1)
  where
    here : (less same : Bool) → nat_lt a.0 b.0 ≡ less → (a.0 == b.0) ≡ same → (b.0 < a.0 → Rise b.0 (with_actor a ids)) → Rise low (if less then a ∷ b ∷ ids else (if same then b ∷ ids else b ∷ with_actor a ids))
    here true same l s more = (above, (is_below a.0 b.0 l, rise.1))
    here false true l s more = rise
    here false false l s more = (rise.0, more (is_above a.0 b.0 l s))

rising_with : (a : ActorId) (ids : List ActorId) → Rising ids → Rising (with_actor a ids)
rising_with a [] rise = tt
rising_with a (b ∷ ids) rise = here (nat_lt a.0 b.0) (a.0 == b.0) refl refl
  where
    here : (less same : Bool) → nat_lt a.0 b.0 ≡ less → (a.0 == b.0) ≡ same → Rising (if less then a ∷ b ∷ ids else (if same then b ∷ ids else b ∷ with_actor a ids))
    here true same l s = (is_below a.0 b.0 l, rise)
    here false true l s = rise
    here false false l s = rise_with b.0 a ids (is_above a.0 b.0 l s) rise

rising : (ids : List ActorId) → Rising (ascending ids)
rising [] = tt
rising (a ∷ ids) = rising_with a (ascending ids) (rising ids)

all_above : (low : ℕ) (ids : List ActorId) (k : ℕ) (d : ActorId) → Rise low ids → k < length ids → low < (get_or ids k d).0
all_above low [] k d rise h = absurd (omega arith)
all_above low (a ∷ ids) zero d rise h = rise.0
all_above low (a ∷ ids) (suc k) d rise h = omega (arith, rise.0, all_above a.0 ids k d rise.1 (omega arith))

rise_pairs : (low : ℕ) (ids : List ActorId) → Rise low ids → Ascend ids
rise_pairs low [] rise = pairs_nil (λ a b. a.0 < b.0)
rise_pairs low (a ∷ ids) rise = AllPairs-cons (λ a b. a.0 < b.0) a ids (λ k d h. all_above a.0 ids k d rise.1 h) (rise_pairs a.0 ids rise.1)

rising_pairs : (ids : List ActorId) → Rising ids → Ascend ids
rising_pairs [] rise = pairs_nil (λ a b. a.0 < b.0)
rising_pairs (a ∷ ids) rise = AllPairs-cons (λ a b. a.0 < b.0) a ids (λ k d h. all_above a.0 ids k d rise h) (rise_pairs a.0 ids rise)

pub are_urgent : (ids : List ActorId) → AreUrgent (ascending ids)
are_urgent ids = to_increasing (ascending ids) (rising_pairs (ascending ids) (rising ids))

with_few : (a : ActorId) (ids : List ActorId) → length (with_actor a ids) ≤ length ids + 1
with_few a [] = omega arith
with_few a (b ∷ ids) = here (nat_lt a.0 b.0) (a.0 == b.0) (with_few a ids)
  where
    here : (less same : Bool) → length (with_actor a ids) ≤ length ids + 1 → length (if less then a ∷ b ∷ ids else (if same then b ∷ ids else b ∷ with_actor a ids)) ≤ length (b ∷ ids) + 1
    here true same more = omega arith
    here false true more = omega arith
    here false false more = omega (arith, more)

few_ascending : (ids : List ActorId) → length (ascending ids) ≤ length ids
few_ascending [] = omega arith
few_ascending (a ∷ ids) = omega (arith, with_few a (ascending ids), few_ascending ids)

actors_with : (count : ℕ) (a : ActorId) (ids : List ActorId) → IsActor count a → AreActors count ids → AreActors count (with_actor a ids)
actors_with count a [] is all = (is, tt)
actors_with count a (b ∷ ids) is all = here (nat_lt a.0 b.0) (a.0 == b.0) (actors_with count a ids is all.1)
  where
    here : (less same : Bool) → AreActors count (with_actor a ids) → AreActors count (if less then a ∷ b ∷ ids else (if same then b ∷ ids else b ∷ with_actor a ids))
    here true same more = (is, all)
    here false true more = all
    here false false more = (all.0, more)

actors_ascending : (count : ℕ) (ids : List ActorId) → AreActors count ids → AreActors count (ascending ids)
actors_ascending count [] all = tt
actors_ascending count (a ∷ ids) all = actors_with count a (ascending ids) all.0 (actors_ascending count ids all.1)

all_known : (count : ℕ) (ids : List ActorId) → AreActors count ids → All (λ id. (1 ≤ id.0) × (id.0 ≤ count)) ids
all_known count [] all k d h = absurd (omega arith)
all_known count (a ∷ ids) all zero d h = (all.0.first, all.0.last)
all_known count (a ∷ ids) all (suc k) d h = all_known count ids all.1 k d (omega arith)

-- the texts of format 1 are none, those of format 2 at most 64
pub record AreTexts (format : ℕ) (ts : List (List ℕ)) : Type 0 where
  pub none : format ≡ 1 → ts ≡ []
  pub few : length ts ≤ 64

urgent_texts-ok : (format : ℕ) (d : Data) (ts : List (List ℕ)) → urgent_texts format d ≡ Ok ts → AreTexts format ts
unfolding urgent_texts
urgent_texts-ok format d ts h = here (format == 1) refl h
  where
    refused : Refusal
    refused = UnknownField (place_of 0 (codes "urgent"))

    none_there : (o : Option Data) → unless_there (Ok []) (Err refused) o ≡ Ok ts → ts ≡ []
    none_there None h = sym (ok_same [] ts h)
    none_there (Some x) h = absurd (cc)

    here : (first : Bool) → (format == 1) ≡ first → (if first then unless_there (Ok []) (Err refused) (get (codes "urgent") d) else texts_or (codes "urgent") [] 64 d) ≡ Ok ts → AreTexts format ts
    here true is h =
        let none = none_there (get (codes "urgent") d) h in
        record { none = λ _. none; few = subst (λ (ts : List (List ℕ)). length ts ≤ 64) (sym none) (omega arith) }
    here false is h = record { none = λ one. absurd (other one is); few = texts_or-few (codes "urgent") [] 64 d ts (omega arith) h }
      where
        other : format ≡ 1 → (format == 1) ≡ false → ⊥
        other one is = grind (arith, nat_tests)

none_of : (ids : List ActorId) → length ids ≡ 0 → ids ≡ []
none_of [] h = refl
none_of (a ∷ ids) h = absurd (omega arith)

-- ---- rules

good_rules : (r : Result (List RuleParts) ℕ) (rules : List RuleParts) → bad_rule r ≡ Ok rules → r ≡ Ok rules
good_rules (Ok found) rules h = ap Ok (ok_same found rules h)
good_rules (Err n) rules h = absurd (cc)

-- ---- the whole

pub record AreLimits (l : Limits) : Type 0 where
  pub format : (l.format ≡ 1) ⊎ (l.format ≡ 2)
  pub seed : l.seed ≤ 18446744073709551615
  pub last_tick : l.last_tick ≤ most
  pub some_diasca : 1 ≤ l.diasca_limit
  pub diasca_limit : l.diasca_limit ≤ 65535
  pub some_actor : 1 ≤ l.max_actors
  pub max_actors : l.max_actors ≤ most_actors l.format

one_or_two : (n : ℕ) → (1 ≤ n) × (n ≤ 2) → (n ≡ 1) ⊎ (n ≡ 2)
one_or_two zero h = absurd (omega (arith, h.0))
one_or_two (suc zero) h = inl refl
one_or_two (suc (suc zero)) h = inr refl
one_or_two (suc (suc (suc n))) h = absurd (omega (arith, h.1))

enough : (format : ℕ) → 10000 ≤ most_actors format
enough format = here (format == 1)
  where
    here : (b : Bool) → 10000 ≤ (if b then 200000 else 1000000)
    here true = lit≤ tt
    here false = lit≤ tt

not_more : (format : ℕ) → most_actors format ≤ 1000000
not_more format = here (format == 1)
  where
    here : (b : Bool) → (if b then 200000 else 1000000) ≤ 1000000
    here true = lit≤ tt
    here false = lit≤ tt

limits_of-ok : (d : Data) (l : Limits) → limits_of d ≡ Ok l → AreLimits l
unfolding limits_of
limits_of-ok d l h =
    let format = both (number_at 0 (codes "format") 1 2 d) _ l h in
    let seed = both (number_or (codes "seed") 0 0 18446744073709551615 d) _ l format.second in
    let last = both (number_at 0 (codes "last_tick") 0 most d) _ l seed.second in
    let diasca = both (number_or (codes "diasca_limit") 1000 1 65535 d) _ l last.second in
    let actors = both (number_or (codes "max_actors") 10000 1 (most_actors format.value) d) _ l diasca.second in
    let made : Limits = record { format = format.value; seed = seed.value; last_tick = last.value; diasca_limit = diasca.value; max_actors = actors.value } in
    let x = number_or-range (codes "diasca_limit") 1000 1 65535 d diasca.value (lit≤ tt) (lit≤ tt) diasca.first in
    let a = number_or-range (codes "max_actors") 10000 1 (most_actors format.value) d actors.value (lit≤ tt) (enough format.value) actors.first in
    subst AreLimits (ok_same made l actors.second) (record {
      format = one_or_two format.value (number_fits 0 (codes "format") 1 2 d format.value format.first);
      seed = (number_or-range (codes "seed") 0 0 18446744073709551615 d seed.value (lit≤ tt) (lit≤ tt) seed.first).1;
      last_tick = (number_fits 0 (codes "last_tick") 0 most d last.value last.first).1;
      some_diasca = x.0;
      diasca_limit = x.1;
      some_actor = a.0;
      max_actors = a.1;
    })

items_in-ok : (max : ℕ) (o : Option Data) (ds : Items) → items_in max o ≡ Ok ds → items_len ds ≤ max
unfolding items_in
items_in-ok max o ds h =
    let p = place_of 0 (codes "actors") in
    let d = both (or_else (Missing p) o) _ ds h in
    let list = both (or_else (WrongType p) (as_array d.value)) _ ds d.second in
    let n = items_len list.value in
    let few = both (unless (nat_le n max) (TooManyActors n)) _ ds list.second in
    subst (λ (ds : Items). items_len ds ≤ max) (ok_same list.value ds few.second) (leb-true n max (unless_ok (nat_le n max) (TooManyActors n) few.value few.first))

as_few : (names actors items most : ℕ) → names ≡ actors → names ≡ items → items ≤ most → actors ≤ most
as_few names actors items most a b c = omega arith

within_both : (a b c : ℕ) → a ≤ b → b ≤ c → a ≤ c
within_both a b c first second = omega arith

at_most : (a b c most : ℕ) → a ≤ b → b ≡ c → c ≤ most → a ≤ most
at_most a b c most first same second = omega arith

pub scenario_in-ok : (d : Data) (p : ScenarioParts) → scenario_in d ≡ Ok p → IsScenario p
unfolding scenario_in
scenario_in-ok d p h =
    let object = both (is_object d) _ p h in
    let known = both (no_unknown owner.Whole 0 d) _ p object.second in
    let limits = both (limits_of d) _ p known.second in
    let l = limits.value in
    let urgent = both (urgent_texts l.format d) _ p limits.second in
    let texts = both (results_of d) _ p urgent.second in
    let rules = both (rules_in texts.value) _ p texts.second in
    let items = both (items_in l.max_actors (get (codes "actors") d)) _ p rules.second in
    let names = both (names_of [] 1 items.value) _ p items.second in
    let actors = both (starts_of names.value 1 names.value items.value) _ p names.second in
    let senders = both (look_all pass.Finish names.value (place_of 0 (codes "urgent")) urgent.value) _ p actors.second in
    let made : ScenarioParts = record {
      format = l.format;
      setup = record { seed = l.seed; last_tick = l.last_tick; diasca_limit = l.diasca_limit; max_actors = l.max_actors; actors = actors.value; urgent = ascending senders.value };
      rules = rules.value;
      texts = texts.value;
    } in
    let ranges = limits_of-ok d l limits.first in
    let named = names_of-ok [] 1 items.value names.value names.first in
    let started = starts_of-ok names.value 1 names.value items.value actors.value named.1 actors.first in
    let count : length names.value ≡ length actors.value = ap length (sym started.names) ∙ count_names actors.value in
    let few = as_few (length names.value) (length actors.value) (items_len items.value) l.max_actors count named.1 (items_in-ok l.max_actors _ items.value items.first) in
    let given = urgent_texts-ok l.format d urgent.value urgent.first in
    let many = as_many pass.Finish names.value (place_of 0 (codes "urgent")) urgent.value senders.value senders.first in
    let there = subst (λ n. AreActors n senders.value) count (all_found_within names.value (place_of 0 (codes "urgent")) urgent.value senders.value senders.first) in
    subst IsScenario (ok_same made p senders.second) (record {
      format = ranges.format;
      setup = record {
        seed = ranges.seed;
        last_tick = ranges.last_tick;
        some_diasca = ranges.some_diasca;
        diasca_limit = ranges.diasca_limit;
        some_actor = ranges.some_actor;
        max_actors = within_both l.max_actors (most_actors l.format) 1000000 ranges.max_actors (not_more l.format);
        actors = few;
        urgent = are_urgent senders.value;
        known = all_known (length actors.value) (ascending senders.value) (actors_ascending (length actors.value) senders.value there);
      };
      room = ranges.max_actors;
      none_urgent = λ one. ap ascending (none_of senders.value (many ∙ ap length (given.none one)));
      few_urgent = at_most (length (ascending senders.value)) (length senders.value) (length urgent.value) 64 (few_ascending senders.value) many given.few;
      few_rules = texts_or-few (codes "results") (codes "+*" ∷ []) 256 d texts.value (lit≤ tt) texts.first;
      rules = good_rules (rules_of texts.value) rules.value rules.first;
      names = subst (AreNamed []) (sym started.names) named.0;
      states = subst (λ n. AreOpening n actors.value) count started.opening;
    })
