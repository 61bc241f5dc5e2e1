-- The letters of a moment: in the store from the close at which they were sent until the next entry, and then in one list.
use Rattle.std.specs.Prelude.{◌≡◌, ◌<◌, true, false, List, [], length, Some, slice_get}
use Rattle.std.specs.List.{All, flat_map}
use Rattle.sim_base.specs.declared.ids.ActorId.{ActorId}
use Rattle.actor_trait.specs.InboxOrder.{Precedence, in_order, is_to}
use Rattle.actor_trait.specs.declared.letter.Letter.{Letter}
use Rattle.inbox_order.specs.Index.{IsRun}
use Rattle.inbox_order.specs.Inboxes.{inbox_of}
use Rattle.inbox_store.specs.Letters.{Letters, list_of}
use Rattle.sim_model.specs.Moment.{is_among}
use Rattle.local_manager.specs.declared.phase.Phase.{Phase}
use Rattle.local_manager.specs.declared.phase.Phase.TheVariants.{Opening, Entered, Closed, Torn}
use Rattle.local_manager.specs.declared.opened.Span.{Span}

-- nobody has a letter
abbrev pub IsEmpty : Letters → Type 0
IsEmpty store = (to : ActorId) → list_of store to.0 ≡ []

-- each list has letters to its recipient alone
abbrev pub IsAddressed : Letters → Type 0
IsAddressed store = (to : ActorId) → All (λ l. is_to to l ≡ true) (list_of store to.0)

-- each list stands in order, but for those that a birth letter joined
abbrev pub IsOrdered : Precedence → List ActorId → Letters → Type 0
IsOrdered precedence creators store =
    (to : ActorId) → is_among creators to ≡ false → in_order precedence (list_of store to.0) ≡ list_of store to.0

-- where the letters to one stand, for each that has some
abbrev pub IsIndexed : List Letter → List Span → Type 0
IsIndexed letters spans =
    (to : ActorId) → 0 < length (inbox_of letters to) → (s : Span) × (slice_get spans to.0 ≡ Some s) × IsRun letters s.start s.end to

-- the letters of a world: those that were opened where a moment is entered, and those in the store else
abbrev pub letters_in : Phase → Letters → List Letter → List Letter
letters_in Opening store opened = flat_map (λ l. l) store.lists
letters_in Entered store opened = opened
letters_in Closed store opened = flat_map (λ l. l) store.lists
letters_in Torn store opened = []
