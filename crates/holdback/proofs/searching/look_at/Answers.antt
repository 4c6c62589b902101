-- `holdback::searching::look_at` meets its contract.
use Rattle.holdback.proofs.SearchCases.{meets}
use Rattle.holdback.proofs.searching.look_at.Goals as goal

pub meet_at-requires : goal.meet_at-requires
meet_at-requires c = search meets

pub enum_told-1 : goal.enum_told-1
enum_told-1 c = search meets

pub free_place-requires : goal.free_place-requires
free_place-requires c = search meets

pub enum_told-in-Stays : goal.enum_told-in-Stays
enum_told-in-Stays c = search meets

pub enum_told-in-Dropped : goal.enum_told-in-Dropped
enum_told-in-Dropped c = search meets

pub free_place-requires-in-Dropped : goal.free_place-requires-in-Dropped
free_place-requires-in-Dropped c = search meets

pub shape_of-buf-in-Taken : goal.shape_of-buf-in-Taken
shape_of-buf-in-Taken c = search meets

pub shape_of-holdback-in-Taken : goal.shape_of-holdback-in-Taken
shape_of-holdback-in-Taken c = search meets

pub returns-in-Taken : goal.returns-in-Taken
returns-in-Taken c = search meets

pub shape_of-buf-in-Stays : goal.shape_of-buf-in-Stays
shape_of-buf-in-Stays c = search meets

pub shape_of-holdback-in-Stays : goal.shape_of-holdback-in-Stays
shape_of-holdback-in-Stays c = search meets

pub returns-in-Stays : goal.returns-in-Stays
returns-in-Stays c = search meets

pub shape_of-buf-in-Dropped : goal.shape_of-buf-in-Dropped
shape_of-buf-in-Dropped c = search meets

pub shape_of-holdback-in-Dropped : goal.shape_of-holdback-in-Dropped
shape_of-holdback-in-Dropped c = search meets

pub returns-in-Dropped : goal.returns-in-Dropped
returns-in-Dropped c = search meets
