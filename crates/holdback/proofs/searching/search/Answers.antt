-- `holdback::searching::search` meets its contract.
use Rattle.holdback.proofs.SearchCases.{searching}
use Rattle.holdback.proofs.searching.search.Goals as goal

pub again-init : goal.again-init
again-init c = search searching

pub loop-i-init : goal.loop-i-init
loop-i-init c = search searching

pub count-requires : goal.count-requires
count-requires c = search searching

pub look_at-requires : goal.look_at-requires
look_at-requires c = search searching

pub enum_told-1 : goal.enum_told-1
enum_told-1 c = search searching

pub again-smaller : goal.again-smaller
again-smaller c = search searching

pub again-preserved : goal.again-preserved
again-preserved c = search searching

pub enum_told-in-Stays : goal.enum_told-in-Stays
enum_told-in-Stays c = search searching

pub overflow_add-i : goal.overflow_add-i
overflow_add-i c = search searching

pub loop-i-smaller-in-Stays : goal.loop-i-smaller-in-Stays
loop-i-smaller-in-Stays c = search searching

pub loop-i-preserved-in-Stays : goal.loop-i-preserved-in-Stays
loop-i-preserved-in-Stays c = search searching

pub enum_told-in-Dropped : goal.enum_told-in-Dropped
enum_told-in-Dropped c = search searching

pub loop-i-smaller : goal.loop-i-smaller
loop-i-smaller c = search searching

pub loop-i-preserved : goal.loop-i-preserved
loop-i-preserved c = search searching

pub shape_of-buf : goal.shape_of-buf
shape_of-buf c = search searching

pub shape_of-holdback : goal.shape_of-holdback
shape_of-holdback c = search searching

pub returns : goal.returns
returns c = search searching
