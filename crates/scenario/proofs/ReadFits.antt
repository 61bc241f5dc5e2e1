-- What is read by the table fits it, and names actors that are there.
use Rattle.std.proofs.Common.{◌≡◌, ℕ, suc, ◌+◌, ◌<◌, ◌≤◌, ℤ, pos, negsuc, List, [], ◌∷◌, length, Result, Ok, Err, Option, Some, None, Bool, true, false, cond, bytes_eq, if◌then◌else◌, nat_le, ◌&&◌, refl, sym, ap, ◌∙◌, arith, subst}
use Rattle.std.proofs.lemmas.Bool.{leb-true, and_parts}
use Rattle.serde_json.specs.Data.{Data}
use Rattle.serde_json.specs.Find.{get, as_array}
use Rattle.sim_base.specs.declared.ids.ActorId.{ActorId}
use Rattle.scenario.specs.Answers.{◌>>=◌, ok_map, or_else, place_of, unless}
use Rattle.scenario.specs.Build.{Fits, FitsOne}
use Rattle.scenario.specs.Fields.{all_texts, in_range, number_at, text_at, texts_at, whole}
use Rattle.scenario.specs.Names.{place_from, place_in}
use Rattle.scenario.specs.Reading.{content_at, contents_at, least_of, look, look_all, nobody, number_in}
use Rattle.scenario.specs.Table.{Row}
use Rattle.scenario.specs.Valid.{AreActors, AreWithin, IsActor, IsWithin}
use Rattle.scenario.specs.declared.contents.Content.{Content}
use Rattle.scenario.specs.declared.contents.Content.TheVariants.{Number, Actor, Route}
use Rattle.scenario.specs.declared.reading.Pass.{Pass}
use Rattle.scenario.specs.declared.reading.Pass.TheVariants as pass
use Rattle.scenario.specs.declared.refusal.Place.{Place}
use Rattle.scenario.specs.declared.refusal.Refusal.{Refusal}
use Rattle.scenario.specs.declared.refusal.Refusal.TheVariants.{Missing, OutOfRange, UnknownActor, WrongType}
use Rattle.scenario.specs.declared.table.Sort.{Sort}
use Rattle.scenario.specs.declared.table.Sort.TheVariants as sort

-- both steps of a chain succeeded
pub record Both {A B : Type 0} (r : Result A Refusal) (f : A → Result B Refusal) (b : B) : Type 0 where
  pub value : A
  pub first : r ≡ Ok value
  pub second : f value ≡ Ok b

pub both : {A B : Type 0} (r : Result A Refusal) (f : A → Result B Refusal) (b : B) → (r >>= f) ≡ Ok b → Both r f b
both (Ok a) f b h = record { value = a; first = refl; second = h }
both (Err e) f b h = absurd (cc)

if_ok : {A : Type 0} (b : Bool) (x y : A) (e : Refusal) → (if b then Ok x else Err e) ≡ Ok y → (b ≡ true) × (x ≡ y)
if_ok true x y e h = (refl, cc)
if_ok false x y e h = absurd (cc)

pub ok_same : {A : Type 0} (x y : A) → ◌≡◌ {A = Result A Refusal} (Ok x) (Ok y) → x ≡ y
ok_same x y h = cc

pub unless_ok : (b : Bool) (e : Refusal) (u : Unit {0}) → unless b e ≡ Ok u → b ≡ true
unless_ok true e u h = refl
unless_ok false e u h = absurd (cc)

-- ---- numbers and texts

in_range-ok : (p : Place) (low high : ℕ) (z : ℤ) (n : ℕ) → in_range p low high z ≡ Ok n → (low ≤ n) × (n ≤ high)
unfolding in_range
in_range-ok p low high (pos m) n h =
    let t = if_ok (nat_le low m && nat_le m high) m n _ h in
    let b = and_parts (nat_le low m) (nat_le m high) t.0 in
    (omega (arith, leb-true low m b.0, t.1), omega (arith, leb-true m high b.1, t.1))
in_range-ok p low high (negsuc m) n h = absurd (cc)

pub number_fits : (id : ℕ) (field : List ℕ) (low high : ℕ) (d : Data) (n : ℕ) → number_at id field low high d ≡ Ok n → (low ≤ n) × (n ≤ high)
unfolding number_at
number_fits id field low high d n h =
    let p = place_of id field in
    let value = both (or_else (Missing p) (get field d)) _ n h in
    let z = both (or_else (WrongType p) (whole value.value)) _ n value.second in
    in_range-ok p low high z.value n z.second

pub texts_fit : (id : ℕ) (field : List ℕ) (few many : ℕ) (d : Data) (ts : List (List ℕ)) → texts_at id field few many d ≡ Ok ts → (few ≤ length ts) × (length ts ≤ many)
unfolding texts_at
texts_fit id field few many d ts h =
    let p = place_of id field in
    let value = both (or_else (Missing p) (get field d)) _ ts h in
    let list = both (or_else (WrongType p) (as_array value.value)) _ ts value.second in
    let texts = both (or_else (WrongType p) (all_texts list.value)) _ ts list.second in
    let n = length texts.value in
    let number = both (unless (nat_le few n && nat_le n many) (OutOfRange p (pos n))) _ ts texts.second in
    let t = and_parts (nat_le few n) (nat_le n many) (unless_ok (nat_le few n && nat_le n many) (OutOfRange p (pos n)) number.value number.first) in
    subst (λ (ts : List (List ℕ)). (few ≤ length ts) × (length ts ≤ many)) (ok_same texts.value ts number.second) (leb-true few n t.0, leb-true n many t.1)

pub as_many : (q : Pass) (names : List (List ℕ)) (p : Place) (ts : List (List ℕ)) (r : List ActorId) → look_all q names p ts ≡ Ok r → length r ≡ length ts
as_many q names p [] r h = ap length (sym (ok_same [] r h))
as_many q names p (t ∷ ts) r h =
    let a = both (look q names p t) _ r h in
    let rest = both (look_all q names p ts) _ r a.second in
    ap length (sym (ok_same (a.value ∷ rest.value) r rest.second)) ∙ ap suc (as_many q names p ts rest.value rest.first)

mapped : {A B : Type 0} (f : A → B) (r : Result A Refusal) (b : B) → ok_map f r ≡ Ok b → (a : A) × (r ≡ Ok a) × (f a ≡ b)
mapped f (Ok a) b h = (a, refl, cc)
mapped f (Err e) b h = absurd (cc)

-- ---- contents fit

one_fits : (q : Pass) (names : List (List ℕ)) (id : ℕ) (d : Data) (before : ℕ) (field : List ℕ) (s : Sort) (c : Content) → content_at q names id d before field s ≡ Ok c → FitsOne before s c
unfolding content_at
one_fits q names id d before field (sort.Number low high) c h =
    let n = mapped Number (number_at id field (least_of before low) high d) c h in
    subst (FitsOne before (sort.Number low high)) n.2 (number_fits id field (least_of before low) high d n.0 n.1)
one_fits q names id d before field sort.Actor c h =
    let text = both (text_at id field d) _ c h in
    let a = both (look q names (place_of id field) text.value) _ c text.second in
    subst (FitsOne before sort.Actor) (ok_same (Actor a.value) c a.second) tt
one_fits q names id d before field sort.Route c h =
    let texts = both (texts_at id field 1 32 d) _ c h in
    let r = both (look_all q names (place_of id field) texts.value) _ c texts.second in
    let many = as_many q names (place_of id field) texts.value r.value r.first in
    let fits = texts_fit id field 1 32 d texts.value texts.first in
    subst (FitsOne before sort.Route) (ok_same (Route r.value) c r.second) (omega (arith, many, fits.0), omega (arith, many, fits.1))

pub all_fit : (q : Pass) (names : List (List ℕ)) (id : ℕ) (d : Data) (before : ℕ) (rs : List Row) (cs : List Content) → contents_at q names id d before rs ≡ Ok cs → Fits before rs cs
all_fit q names id d before [] cs h = subst (Fits before []) (ok_same [] cs h) tt
all_fit q names id d before (r ∷ rs) cs h =
    let c = both (content_at q names id d before r.name r.sort) _ cs h in
    let rest = both (contents_at q names id d (number_in c.value) rs) _ cs c.second in
    subst (Fits before (r ∷ rs)) (ok_same (c.value ∷ rest.value) cs rest.second)
    (one_fits q names id d before r.name r.sort c.value c.first, all_fit q names id d (number_in c.value) rs rest.value rest.first)

-- ---- whom a finished actor names is there

place_from-range : (i : ℕ) (ns : List (List ℕ)) (q : List ℕ) (p : ℕ) → place_from i ns q ≡ Some p → (i ≤ p) × (p < i + length ns)
place_from-range i [] q p h = absurd (cc)
place_from-range i (n ∷ ns) q p h = here (bytes_eq n q) (place_from-range (i + 1) ns q p) h
  where
    here : (b : Bool) → (place_from (i + 1) ns q ≡ Some p → (i + 1 ≤ p) × (p < i + 1 + length ns)) → cond b (Some i) (place_from (i + 1) ns q) ≡ Some p → (i ≤ p) × (p < i + suc (length ns))
    here true more h = let same : i ≡ p = cc in (omega arith, omega arith)
    here false more h = let r = more h in (omega (arith, r.0), omega (arith, r.1))

place_found : (e : Refusal) (o : Option ℕ) (id : ActorId) → ok_map {E = Refusal} (λ place. record { 0 = place }) (or_else e o) ≡ Ok id → o ≡ Some id.0
place_found e None id h = absurd (cc)
place_found e (Some x) id h =
    let made : ActorId = record { 0 = x } in
    ap Some (ap (λ (a : ActorId). a.0) (ok_same made id h))

found_within : (names : List (List ℕ)) (p : Place) (text : List ℕ) (a : ActorId) → look pass.Finish names p text ≡ Ok a → IsActor (length names) a
found_within names p text a h =
    let r = place_from-range 1 names text a.0 (place_found (UnknownActor p) (place_in names text) a h) in
    record { first = r.0; last = omega (arith, r.1) }

pub all_found_within : (names : List (List ℕ)) (p : Place) (ts : List (List ℕ)) (r : List ActorId) → look_all pass.Finish names p ts ≡ Ok r → AreActors (length names) r
all_found_within names p [] r h = subst (AreActors (length names)) (ok_same [] r h) tt
all_found_within names p (t ∷ ts) r h =
    let a = both (look pass.Finish names p t) _ r h in
    let rest = both (look_all pass.Finish names p ts) _ r a.second in
    subst (AreActors (length names)) (ok_same (a.value ∷ rest.value) r rest.second) (found_within names p t a.value a.first, all_found_within names p ts rest.value rest.first)

one_within : (names : List (List ℕ)) (id : ℕ) (d : Data) (before : ℕ) (field : List ℕ) (s : Sort) (c : Content) → content_at pass.Finish names id d before field s ≡ Ok c → IsWithin (length names) c
unfolding content_at
one_within names id d before field (sort.Number low high) c h =
    let n = mapped Number (number_at id field (least_of before low) high d) c h in
    subst (IsWithin (length names)) n.2 tt
one_within names id d before field sort.Actor c h =
    let text = both (text_at id field d) _ c h in
    let a = both (look pass.Finish names (place_of id field) text.value) _ c text.second in
    subst (IsWithin (length names)) (ok_same (Actor a.value) c a.second) (found_within names (place_of id field) text.value a.value a.first)
one_within names id d before field sort.Route c h =
    let texts = both (texts_at id field 1 32 d) _ c h in
    let r = both (look_all pass.Finish names (place_of id field) texts.value) _ c texts.second in
    subst (IsWithin (length names)) (ok_same (Route r.value) c r.second) (all_found_within names (place_of id field) texts.value r.value r.first)

pub all_within : (names : List (List ℕ)) (id : ℕ) (d : Data) (before : ℕ) (rs : List Row) (cs : List Content) → contents_at pass.Finish names id d before rs ≡ Ok cs → AreWithin (length names) cs
all_within names id d before [] cs h = subst (AreWithin (length names)) (ok_same [] cs h) tt
all_within names id d before (r ∷ rs) cs h =
    let c = both (content_at pass.Finish names id d before r.name r.sort) _ cs h in
    let rest = both (contents_at pass.Finish names id d (number_in c.value) rs) _ cs c.second in
    subst (AreWithin (length names)) (ok_same (c.value ∷ rest.value) cs rest.second)
    (one_within names id d before r.name r.sort c.value c.first, all_within names id d (number_in c.value) rs rest.value rest.first)

-- ---- where an actor is finished, it passes the checks, whichever names are known then

pub record Checked (r : Result Content Refusal) (c : Content) : Type 0 where
  pub value : Content
  pub passes : r ≡ Ok value
  pub same : number_in value ≡ number_in c

all_pass : (names : List (List ℕ)) (p : Place) (ts : List (List ℕ)) → (r : List ActorId) × (look_all pass.Check names p ts ≡ Ok r)
all_pass names p [] = ([], refl)
all_pass names p (t ∷ ts) = let more = all_pass names p ts in (nobody ∷ more.0, rw more.1 refl)

one_passes : (known names : List (List ℕ)) (id : ℕ) (d : Data) (before : ℕ) (field : List ℕ) (s : Sort) (c : Content) → content_at pass.Finish names id d before field s ≡ Ok c → Checked (content_at pass.Check known id d before field s) c
unfolding content_at
one_passes known names id d before field (sort.Number low high) c h = record { value = c; passes = h; same = refl }
one_passes known names id d before field sort.Actor c h =
    let text = both (text_at id field d) _ c h in
    let a = both (look pass.Finish names (place_of id field) text.value) _ c text.second in
    record { value = Actor nobody; passes = rw text.first refl; same = ap number_in (ok_same (Actor a.value) c a.second) }
one_passes known names id d before field sort.Route c h =
    let texts = both (texts_at id field 1 32 d) _ c h in
    let r = both (look_all pass.Finish names (place_of id field) texts.value) _ c texts.second in
    let checked = all_pass known (place_of id field) texts.value in
    record {
      value = Route checked.0;
      passes = ap (λ r. r >>= (λ texts. look_all pass.Check known (place_of id field) texts >>= (λ route. Ok (Route route)))) texts.first ∙ ap (λ r. r >>= (λ route. Ok (Route route))) checked.1;
      same = ap number_in (ok_same (Route r.value) c r.second);
    }

pub each_passes : (known names : List (List ℕ)) (id : ℕ) (d : Data) (before : ℕ) (rs : List Row) (cs : List Content) → contents_at pass.Finish names id d before rs ≡ Ok cs
    → (checked : List Content) × (contents_at pass.Check known id d before rs ≡ Ok checked)
each_passes known names id d before [] cs h = ([], refl)
each_passes known names id d before (r ∷ rs) cs h =
    let c = both (content_at pass.Finish names id d before r.name r.sort) _ cs h in
    let rest = both (contents_at pass.Finish names id d (number_in c.value) rs) _ cs c.second in
    let first = one_passes known names id d before r.name r.sort c.value c.first in
    let more = each_passes known names id d (number_in c.value) rs rest.value rest.first in
    (first.value ∷ more.0, rw (first.passes, first.same, more.1) refl)
