-- What a contract sees after a step.
use Rattle.std.proofs.Common.{◌≡◌, ◌≢◌, ℕ, zero, suc, ◌+◌, ◌-◌, ◌<◌, ◌≤◌, List, [], ◌∷◌, ◌++◌, map, length, get_or, reverse, refl, sym, ap, ◌∙◌}
use Rattle.std.proofs.Common.{arith, add-one}
use Rattle.std.proofs.lemmas.List.{length-map, length-reverse, reverse-append}
use Rattle.inbox_store.specs.Chains.{no_chain, chain_of, walk, letters_at, newest, store, IsSound, Shifts}
use Rattle.inbox_store.specs.Letters.{list_of, top_of}
use Rattle.actor_trait.specs.declared.letter.Letter.{Letter}
use Rattle.inbox_store.specs.declared.chains.Node.{Node}
use Rattle.inbox_store.specs.declared.chains.Chain.{Chain}
use Rattle.inbox_store.proofs.Fronts.{length_newest}

list_from : (ns : List Node) (es : List Chain) (id : ℕ)
    → get_or (map (λ e. reverse (letters_at ns (walk ns e.count e.head))) es) id [] ≡ reverse (letters_at ns (walk ns (get_or es id no_chain).count (get_or es id no_chain).head))
list_from ns [] id = refl
list_from ns (e ∷ es) zero = refl
list_from ns (e ∷ es) (suc id) = list_from ns es id

pub list_at : (ns : List Node) (es : List Chain) (id : ℕ) → list_of (store ns es) id ≡ reverse (newest ns es (id + 1))
list_at ns [] id = refl
list_at ns (e ∷ es) id = rw add-one (list_from ns es id)

pub length_list : (ns : List Node) (es : List Chain) (id : ℕ) → length (list_of (store ns es) id) ≡ (chain_of es (id + 1)).count
length_list ns es id = ap length (list_at ns es id) ∙ length-reverse (newest ns es (id + 1)) ∙ length_newest ns es (id + 1)

pub top_is : (ns : List Node) (es : List Chain) → top_of (store ns es) ≡ length es - 2
top_is ns [] = refl
top_is ns (e ∷ es) = omega (arith, length-map es (λ (e : Chain). reverse (letters_at ns (walk ns e.count e.head))))

pub known_in : (ns : List Node) (es : List Chain) (id : ℕ) → (0 < length es → 2 ≤ length es) → 0 < (chain_of es 0).count
    → id ≤ top_of (store ns es) → id + 1 < length es
known_in ns [] id h some le = absurd (omega arith)
known_in ns (e ∷ es) id h some le = let two = h (omega arith) in omega (arith, top_is ns (e ∷ es), two, le)

pub put_list : (ns ns' : List Node) (es es' : List Chain) (id : ℕ) (l : Letter) → Shifts ns es ns' es' 0 (id + 1) l
    → list_of (store ns' es') id ≡ list_of (store ns es) id ++ l ∷ []
put_list ns ns' es es' id l s =
    list_at ns' es' id ∙ ap reverse s.put ∙ reverse-append (l ∷ []) (newest ns es (id + 1)) ∙ ap (λ ls. ls ++ l ∷ []) (sym (list_at ns es id))

pub put_others : (ns ns' : List Node) (es es' : List Chain) (id other : ℕ) (l : Letter) → Shifts ns es ns' es' 0 (id + 1) l → other ≢ id
    → list_of (store ns' es') other ≡ list_of (store ns es) other
put_others ns ns' es es' id other l s differs =
    list_at ns' es' other ∙ ap reverse (s.others (other + 1) (λ e. omega (arith, e)) (λ e. differs (omega (arith, e)))) ∙ sym (list_at ns es other)

pub same_top : (ns ns' : List Node) (es es' : List Chain) → length es' ≡ length es → top_of (store ns' es') ≡ top_of (store ns es)
same_top ns ns' es es' e = omega (arith, top_is ns es, top_is ns' es', e)

pub sound_empty : IsSound [] []
sound_empty = record { owner = λ x. 0; owned = λ c x h. absurd h; apart = λ c. tt; whole = refl }

pub drain_others : (ns ns' : List Node) (es es' : List Chain) (id other : ℕ) → ((c : ℕ) → c ≢ 0 → c ≢ id + 1 → newest ns' es' c ≡ newest ns es c)
    → other ≢ id → list_of (store ns' es') other ≡ list_of (store ns es) other
drain_others ns ns' es es' id other h differs =
    list_at ns' es' other ∙ ap reverse (h (other + 1) (λ e. omega (arith, e)) (λ e. differs (omega (arith, e)))) ∙ sym (list_at ns es other)

pub same_lists : (ns ns' : List Node) (es es' : List Chain) → ((c : ℕ) → c ≢ 0 → newest ns' es' c ≡ newest ns es c) → (id : ℕ)
    → list_of (store ns' es') id ≡ list_of (store ns es) id
same_lists ns ns' es es' h id = list_at ns' es' id ∙ ap reverse (h (id + 1) (λ e. omega (arith, e))) ∙ sym (list_at ns es id)
