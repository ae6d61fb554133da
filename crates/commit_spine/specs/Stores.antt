-- What a store stands for.
use Rattle.std.specs.Prelude.{◌≡◌, ◌≤◌, List, map, Option, Some, None, vec_capacity}
use Rattle.tree_revision.specs.Records.{PlainRecord, plain_record}
use Rattle.tree_revision.specs.Stands.{StandsFor}
use Rattle.commit_spine.specs.declared.mark.SpineMark.{SpineMark}
use Rattle.commit_spine.specs.declared.store.Store.{Store}

-- what a slot may have: a store, but while the holder of the turn has it in hand
abbrev pub Slot : Type 0
Slot = Option Store

-- a store is that of a history: its records are the history's, its front stands for them, and it
-- has memory for all records that there is room for
pub record IsStoreOf (mark : SpineMark) (store : Store) (history : List PlainRecord) : Type 0 where
  pub records : map plain_record store.records.items ≡ history
  pub front : StandsFor mark.first store.front history
  pub memory : mark.room ≤ vec_capacity store.records

-- a slot has the store of a history
abbrev pub HasStoreOf : SpineMark → Slot → (history : List PlainRecord) → Type 0
HasStoreOf mark None history = ⊥
HasStoreOf mark (Some store) history = IsStoreOf mark store history
